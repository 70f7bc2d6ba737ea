-- A note in words.
use Rattle.std.specs.Prelude.{ℕ, zero, suc, ℤ, pos, negsuc, Bool, true, false, List, [], ◌∷◌, ◌++◌, Option, Some, None, codes, decimal}
use Rattle.std.specs.Fmt.{signed_decimal}
use Rattle.co_object.specs.declared.PlainOp.{PlainOp}
use Rattle.co_object.specs.declared.PlainOp.TheVariants.{Reset, Schedule, Stop, AsyncDrain, Active, Pending, Deactivate, Init, Retire}
use Rattle.co_object.specs.declared.CallOp.{CallOp}
use Rattle.co_object.specs.declared.CallOp.TheVariants.{Plain, DrainTry}
use Rattle.co_object.specs.declared.RunOp.{RunOp}
use Rattle.co_object.specs.declared.RunOp.TheVariants.{Pick, Begin, End}
use Rattle.co_object.specs.declared.Op.{Op}
use Rattle.co_object.specs.declared.Op.TheVariants.{Call, Run}
use Rattle.co_object.specs.declared.Next.{Next}
use Rattle.co_object.specs.declared.Reply.{Reply}
use Rattle.co_object.specs.declared.Reply.TheVariants as reply
use Rattle.co_object.specs.declared.QOp.{QOp}
use Rattle.co_object.specs.declared.QOp.TheVariants as queue
use Rattle.co_object.specs.declared.QReply.{QReply}
use Rattle.co_object.specs.declared.QReply.TheVariants as answer
use Rattle.co_object.specs.declared.OwnKind.{OwnKind}
use Rattle.co_object.specs.declared.OwnKind.TheVariants.{NotHeld, HoldsLock, Holding, NotHolding}
use Rattle.co_object.specs.declared.AnyEntry.{AnyEntry}
use Rattle.co_object.specs.declared.AnyEntry.TheVariants as of
use Rattle.co_object.specs.declared.Place.{Place}
use Rattle.co_object.specs.declared.Place.TheVariants as place
use Rattle.co_text.specs.Lines.{spaced}
use Rattle.co_text.specs.Values.{Word}
use Rattle.co_text.specs.Written.{func_word, argument_word}
use Rattle.co_notes.specs.NoteTexts.{arming_word}
use Rattle.co_notes.specs.Parts.{joined}
use Rattle.co_view.specs.Seconds.{seconds_word}

-- ---- operations on callout i

abbrev pub on_timer : Word → ℕ → List Word
on_timer verb i = verb ∷ decimal i ∷ []

abbrev pub plain_words : ℕ → PlainOp → List Word
plain_words i (Reset due prec func arg cpu) = codes "reset timer" ∷ decimal i ∷ codes "at" ∷ seconds_word due ∷ codes "to" ∷ func_word func ∷ argument_word arg ∷ []
plain_words i (Schedule due prec cpu) = codes "schedule timer" ∷ decimal i ∷ codes "at" ∷ seconds_word due ∷ []
plain_words i Stop = on_timer (codes "stop timer") i
plain_words i (AsyncDrain func) = codes "async drain timer" ∷ decimal i ∷ codes "to" ∷ func_word func ∷ []
plain_words i Active = on_timer (codes "ask active of timer") i
plain_words i Pending = on_timer (codes "ask pending of timer") i
plain_words i Deactivate = on_timer (codes "deactivate timer") i
plain_words i Init = on_timer (codes "init timer") i
plain_words i Retire = on_timer (codes "retire timer") i

abbrev pub call_words : ℕ → CallOp → List Word
call_words i (Plain op) = plain_words i op
call_words i (DrainTry took) = on_timer (codes "drain timer") i

abbrev pub run_words : ℕ → RunOp → List Word
run_words i (Pick n cpu at) = codes "take timer" ∷ decimal i ∷ arming_word n ∷ codes "at" ∷ seconds_word at ∷ []
run_words i (Begin n cpu) = codes "has the lock of timer" ∷ decimal i ∷ arming_word n ∷ []
run_words i (End n cpu) = codes "end timer" ∷ decimal i ∷ arming_word n ∷ []

abbrev pub op_words : ℕ → Op → List Word
op_words i (Call op) = call_words i op
op_words i (Run op) = run_words i op

-- ---- replies

-- `->`, a code and what it says
abbrev pub coded : ℤ → Word → List Word
coded code meaning = codes "->" ∷ signed_decimal code ∷ meaning ∷ []

abbrev pub armed_word : ℤ → Word
armed_word (pos zero) = codes "armed"
armed_word code = codes "armed in place of another"

abbrev pub refused_word : ℤ → Word
refused_word (pos zero) = codes "not armed (a drain waits)"
refused_word code = codes "not armed (a drain waits), and what waited for its lock is cancelled"

abbrev pub stopped_word : ℤ → Word
stopped_word (pos zero) = codes "(its service is under way)"
stopped_word (pos (suc n)) = codes "(it will not run)"
stopped_word (negsuc n) = codes "(nothing to stop)"

abbrev pub drained_word : ℤ → Word
drained_word (pos n) = codes "(over for good; it was armed)"
drained_word (negsuc n) = codes "(over for good)"

abbrev pub in_use_word : (armed serviced : Bool) → Word
in_use_word true true = codes "-> in use: armed and in service"
in_use_word true false = codes "-> in use: armed"
in_use_word false true = codes "-> in use: in service"
in_use_word false false = codes "-> in use"

abbrev pub drain_words : Option ℕ → List Word
drain_words (Some func) = codes "and calls drain" ∷ func_word func ∷ []
drain_words None = []

abbrev pub next_words : Option Next → List Word
next_words (Some x) = codes "and moves on as" ∷ arming_word x.n ∷ codes "to CPU" ∷ decimal x.cpu ∷ codes "at" ∷ seconds_word x.due ∷ []
next_words None = []

abbrev pub woke_words : Bool → List Word
woke_words true = codes "and wakes a drain" ∷ []
woke_words false = []

abbrev pub reply_words : Reply → List Word
reply_words (reply.Armed code n cpu off) = codes "->" ∷ signed_decimal code ∷ armed_word code ∷ arming_word n ∷ codes "on CPU" ∷ decimal cpu ∷ []
reply_words (reply.NotArmed code) = coded code (refused_word code)
reply_words reply.NoHandler = codes "-> no function to call" ∷ []
reply_words reply.Worn = codes "-> no arming is left" ∷ []
reply_words (reply.Stopped code off) = coded code (stopped_word code)
reply_words (reply.Wait n took off) = codes "-> waits for the end of" ∷ arming_word n ∷ []
reply_words (reply.Drained code off) = coded code (drained_word code)
reply_words reply.Busy = codes "-> busy (another drain waits)" ∷ []
reply_words reply.Yes = codes "-> yes" ∷ []
reply_words reply.No = codes "-> no" ∷ []
reply_words reply.Done = codes "-> done" ∷ []
reply_words reply.Live = codes "-> live already" ∷ []
reply_words reply.Retired = codes "-> out of use" ∷ []
reply_words (reply.InUse armed serviced) = in_use_word armed serviced ∷ []
reply_words (reply.Go func arg) = codes "-> calls" ∷ func_word func ∷ argument_word arg ∷ []
reply_words reply.Hold = codes "-> waits for its lock" ∷ []
reply_words reply.Skip = codes "-> skipped, it was cancelled" ∷ []
reply_words (reply.Ended drain next woke) = codes "-> over" ∷ (drain_words drain ++ (next_words next ++ woke_words woke))

-- ---- a CPU's timer queue

abbrev pub queue_words : QOp → List Word
queue_words (queue.Insert i n t) = codes "insert timer" ∷ decimal i ∷ arming_word n ∷ codes "at" ∷ seconds_word t ∷ []
queue_words (queue.Remove i) = codes "remove timer" ∷ decimal i ∷ []
queue_words (queue.Scan now) = codes "tick" ∷ codes "at" ∷ seconds_word now ∷ []
queue_words queue.Pop = codes "next due" ∷ []
queue_words queue.Free = codes "free" ∷ []
queue_words queue.PopDirect = codes "next due direct" ∷ []
queue_words queue.FreeDirect = codes "free direct" ∷ []

abbrev pub answer_words : QReply → List Word
answer_words (answer.At t) = codes "-> in the queue" ∷ codes "at" ∷ seconds_word t ∷ []
answer_words answer.Off = codes "-> out of the queue" ∷ []
answer_words answer.Missing = codes "-> not in the queue" ∷ []
answer_words (answer.Count k) = codes "-> due:" ∷ decimal k ∷ []
answer_words (answer.Got i n at) = codes "-> timer" ∷ decimal i ∷ arming_word n ∷ codes "at" ∷ seconds_word at ∷ []
answer_words answer.Empty = codes "-> none" ∷ []
answer_words answer.Freed = codes "-> done" ∷ []

-- the CPU whose queue it is
abbrev pub cpu_text : ℕ → List ℕ
cpu_text cpu = codes "CPU " ++ (decimal cpu ++ codes ": ")

abbrev pub own_text : OwnKind → Word
own_text NotHeld = codes "refused: the call's lock is not held"
own_text HoldsLock = codes "refused: a drain while a lock is held"
own_text Holding = codes "refused: a lock while one is held"
own_text NotHolding = codes "refused: an unlock while none is held"

-- ---- a note

-- the number of a place among those of its kind
abbrev pub place_number : Place → ℕ
place_number (place.Timer i) = i
place_number (place.Cpu c) = c
place_number (place.Actor a) = a

-- what a note of this place says
abbrev pub note_text : Place → AnyEntry → List ℕ
note_text p (of.Timer e) = joined (op_words (place_number p) e.op) ++ spaced (reply_words e.reply)
note_text p (of.Cpu e) = cpu_text (place_number p) ++ (joined (queue_words e.op) ++ spaced (answer_words e.reply))
note_text p (of.Own e) = own_text e.kind
