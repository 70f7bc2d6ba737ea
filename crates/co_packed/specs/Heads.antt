-- The head of a note: which entry it is, and by whom.
use Rattle.co_object.specs.Lists.{actor_of}
use Rattle.co_object.specs.declared.note.Note.{Note}
use Rattle.co_packed.specs.declared.heads.Head.{Head}

abbrev pub head_of : Note → Head
head_of note = record { place = note.place; pos = note.pos; actor = actor_of note.entry }
