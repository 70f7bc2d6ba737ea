-- The words of a note.
use Rattle.std.specs.Prelude.{ℕ, Bool, true, false, List, [], ◌∷◌, ◌++◌, Option, Some, None, codes, decimal}
use Rattle.std.specs.Fmt.{signed_decimal}
use Rattle.co_object.specs.declared.PlainOp.{PlainOp}
use Rattle.co_object.specs.declared.PlainOp.TheVariants.{Reset, Schedule, Stop, AsyncDrain, Active, Pending, Deactivate, Init, Retire}
use Rattle.co_object.specs.declared.CallOp.TheVariants.{Plain, DrainTry}
use Rattle.co_object.specs.declared.RunOp.TheVariants.{Pick, Begin, End}
use Rattle.co_object.specs.declared.Op.{Op}
use Rattle.co_object.specs.declared.Op.TheVariants.{Call, Run}
use Rattle.co_object.specs.declared.Next.{Next}
use Rattle.co_object.specs.declared.Reply.{Reply}
use Rattle.co_object.specs.declared.Reply.TheVariants as reply
use Rattle.co_object.specs.declared.QOp.{QOp}
use Rattle.co_object.specs.declared.QOp.TheVariants as queue
use Rattle.co_object.specs.declared.QReply.{QReply}
use Rattle.co_object.specs.declared.QReply.TheVariants as answer
use Rattle.co_object.specs.declared.OwnKind.{OwnKind}
use Rattle.co_object.specs.declared.OwnKind.TheVariants.{NotHeld, HoldsLock, Holding, NotHolding}
use Rattle.co_object.specs.declared.AnyEntry.{AnyEntry}
use Rattle.co_object.specs.declared.AnyEntry.TheVariants.{Timer, Cpu, Own}
use Rattle.co_object.specs.Lists.{act_of, actor_of}
use Rattle.co_packed.specs.declared.halves.AnyOp.{AnyOp}
use Rattle.co_packed.specs.declared.halves.AnyOp.TheVariants as ops
use Rattle.co_packed.specs.declared.halves.AnyReply.{AnyReply}
use Rattle.co_packed.specs.declared.halves.AnyReply.TheVariants as replies
use Rattle.co_text.specs.Values.{Word}
use Rattle.co_text.specs.Written.{units_word, func_word, argument_word}
use Rattle.co_grammar.specs.Spelling.{actor_word}
use Rattle.co_program.specs.declared.Script.{Script}
use Rattle.co_notes.specs.declared.reading.notes.NumberedEntry.{NumberedEntry}

-- the words of values

-- `iN`
abbrev pub callout_word : ℕ → Word
callout_word i = 105 ∷ decimal i

-- `#N`, the number of an arming
abbrev pub arming_word : ℕ → Word
arming_word n = 35 ∷ decimal n

-- `pN`
abbrev pub cpu_word : ℕ → Word
cpu_word c = 112 ∷ decimal c

abbrev pub truth_word : Bool → Word
truth_word true = codes "1"
truth_word false = codes "0"

-- a value, or `-`
abbrev pub word_or_dash : {X : Type 0} → (X → Word) → Option X → Word
word_or_dash word (Some x) = word x
word_or_dash word None = codes "-"

abbrev pub cpu_or_dash : Option ℕ → Word
cpu_or_dash c = word_or_dash cpu_word c

abbrev pub func_or_dash : Option ℕ → Word
func_or_dash f = word_or_dash func_word f

abbrev pub off_words : Option ℕ → List Word
off_words off = codes "off" ∷ cpu_or_dash off ∷ []

abbrev pub next_words : Option Next → List Word
next_words (Some x) = arming_word x.n ∷ cpu_word x.cpu ∷ units_word x.due ∷ []
next_words None = codes "-" ∷ []

-- operations on a callout

abbrev pub plain_words : PlainOp → List Word
plain_words (Reset due prec func arg cpu) = codes "reset" ∷ units_word due ∷ codes "pr" ∷ units_word prec ∷ func_word func ∷ argument_word arg ∷ codes "cpu" ∷ cpu_or_dash cpu ∷ []
plain_words (Schedule due prec cpu) = codes "schedule" ∷ units_word due ∷ codes "pr" ∷ units_word prec ∷ codes "cpu" ∷ cpu_or_dash cpu ∷ []
plain_words Stop = codes "stop" ∷ []
plain_words (AsyncDrain func) = codes "adrain" ∷ func_word func ∷ []
plain_words Active = codes "active" ∷ []
plain_words Pending = codes "pending" ∷ []
plain_words Deactivate = codes "deactivate" ∷ []
plain_words Init = codes "init" ∷ []
plain_words Retire = codes "retire" ∷ []

abbrev pub op_words : Op → List Word
op_words (Call (Plain o)) = plain_words o
op_words (Call (DrainTry took)) = codes "drain" ∷ truth_word took ∷ []
op_words (Run (Pick n cpu at)) = codes "pick" ∷ arming_word n ∷ cpu_word cpu ∷ units_word at ∷ []
op_words (Run (Begin n cpu)) = codes "begin" ∷ arming_word n ∷ cpu_word cpu ∷ []
op_words (Run (End n cpu)) = codes "end" ∷ arming_word n ∷ cpu_word cpu ∷ []

abbrev pub reply_words : Reply → List Word
reply_words (reply.Armed code n cpu off) = codes "armed" ∷ signed_decimal code ∷ arming_word n ∷ cpu_word cpu ∷ off_words off
reply_words (reply.NotArmed code) = codes "notarmed" ∷ signed_decimal code ∷ []
reply_words reply.NoHandler = codes "nohandler" ∷ []
reply_words reply.Worn = codes "worn" ∷ []
reply_words (reply.Stopped code off) = codes "stopped" ∷ signed_decimal code ∷ off_words off
reply_words (reply.Wait n took off) = codes "wait" ∷ arming_word n ∷ truth_word took ∷ off_words off
reply_words (reply.Drained code off) = codes "drained" ∷ signed_decimal code ∷ off_words off
reply_words reply.Busy = codes "busy" ∷ []
reply_words reply.Yes = codes "yes" ∷ []
reply_words reply.No = codes "no" ∷ []
reply_words reply.Done = codes "done" ∷ []
reply_words reply.Live = codes "live" ∷ []
reply_words reply.Retired = codes "retired" ∷ []
reply_words (reply.InUse armed serviced) = codes "inuse" ∷ truth_word armed ∷ truth_word serviced ∷ []
reply_words (reply.Go func arg) = codes "go" ∷ func_word func ∷ argument_word arg ∷ []
reply_words reply.Hold = codes "hold" ∷ []
reply_words reply.Skip = codes "skip" ∷ []
reply_words (reply.Ended drain next woke) = codes "ended" ∷ codes "drain" ∷ func_or_dash drain ∷ codes "next" ∷ (next_words next ++ codes "woke" ∷ truth_word woke ∷ [])

-- operations on a timer queue

abbrev pub queue_words : QOp → List Word
queue_words (queue.Insert i n t) = codes "insert" ∷ callout_word i ∷ arming_word n ∷ units_word t ∷ []
queue_words (queue.Remove i) = codes "remove" ∷ callout_word i ∷ []
queue_words (queue.Scan now) = codes "scan" ∷ units_word now ∷ []
queue_words queue.Pop = codes "pop" ∷ []
queue_words queue.Free = codes "free" ∷ []
queue_words queue.PopDirect = codes "pop" ∷ codes "direct" ∷ []
queue_words queue.FreeDirect = codes "free" ∷ codes "direct" ∷ []

abbrev pub answer_words : QReply → List Word
answer_words (answer.At t) = codes "at" ∷ units_word t ∷ []
answer_words answer.Off = codes "off" ∷ []
answer_words answer.Missing = codes "missing" ∷ []
answer_words (answer.Count k) = codes "count" ∷ decimal k ∷ []
answer_words (answer.Got i n at) = codes "got" ∷ callout_word i ∷ arming_word n ∷ units_word at ∷ []
answer_words answer.Empty = codes "empty" ∷ []
answer_words answer.Freed = codes "freed" ∷ []

abbrev pub own_words : OwnKind → List Word
own_words NotHeld = codes "notheld" ∷ []
own_words HoldsLock = codes "holdslock" ∷ []
own_words Holding = codes "holding" ∷ []
own_words NotHolding = codes "notholding" ∷ []

-- a whole note

-- an operation and its answer, with `=` between them
abbrev pub with_answer : List Word → List Word → List Word
with_answer op reply = op ++ codes "=" ∷ reply

-- the operation of an entry, before its reply, and the reply
abbrev pub any_op_words : AnyOp → List Word
any_op_words (ops.Timer op) = op_words op ++ codes "=" ∷ []
any_op_words (ops.Cpu op) = queue_words op ++ codes "=" ∷ []
any_op_words (ops.Own kind) = own_words kind

abbrev pub any_reply_words : AnyReply → List Word
any_reply_words (replies.Timer reply) = reply_words reply
any_reply_words (replies.Cpu answer) = answer_words answer
any_reply_words replies.Own = []

-- what an entry says
abbrev pub entry_words : AnyEntry → List Word
entry_words (Timer e) = with_answer (op_words e.op) (reply_words e.reply)
entry_words (Cpu e) = with_answer (queue_words e.op) (answer_words e.reply)
entry_words (Own e) = own_words e.kind

-- `K A/M X`
abbrev pub note_words : Script → ℕ → AnyEntry → List Word
note_words s k e = decimal k ∷ (actor_word s (actor_of e) ++ 47 ∷ decimal (act_of e)) ∷ entry_words e

-- the words of what a line shows
abbrev pub shown_words : Script → NumberedEntry → List Word
shown_words s n = note_words s n.number n.entry
