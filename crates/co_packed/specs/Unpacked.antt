-- The note that a packed note stands for.
use Rattle.co_object.specs.declared.note.Note.{Note}
use Rattle.co_packed.specs.declared.packed.PackedNote.TheInside.{Inside}
use Rattle.co_packed.specs.declared.words.OpWords.{OpWords}
use Rattle.co_packed.specs.declared.words.ReplyWords.{ReplyWords}
use Rattle.co_packed.specs.Parts.{entry_of, place_of}

abbrev pub op_words : Inside → OpWords
op_words p = record { time = p.time; prec = p.prec; word = p.word; number = p.number; cpu = p.cpu }

abbrev pub reply_words : Inside → ReplyWords
reply_words p = record { time = p.reply_time; word = p.reply_word; code = p.code; number = p.reply_number; off = p.off }

abbrev pub unpacked : Inside → Note
unpacked p = record { place = place_of p.whose p.place; pos = p.pos; entry = entry_of p.sort p.actor p.act (op_words p) (reply_words p) }
