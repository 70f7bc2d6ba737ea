-- The notes that the words of a line show: NoteTexts read the other way. Each reader takes what it reads from the front.
use Rattle.std.specs.Prelude.{ℕ, Bool, true, false, List, [], ◌∷◌, Option, Some, None, Result, Ok, Err, if◌then◌else◌, codes}
use Rattle.co_object.specs.declared.PlainOp.TheVariants.{Reset, Schedule, Stop, AsyncDrain, Active, Pending, Deactivate, Init, Retire}
use Rattle.co_object.specs.declared.CallOp.TheVariants.{Plain, DrainTry}
use Rattle.co_object.specs.declared.RunOp.TheVariants.{Pick, Begin, End}
use Rattle.co_object.specs.declared.Op.{Op}
use Rattle.co_object.specs.declared.Op.TheVariants.{Call, Run}
use Rattle.co_object.specs.declared.Next.{Next}
use Rattle.co_object.specs.declared.Reply.{Reply}
use Rattle.co_object.specs.declared.Reply.TheVariants as reply
use Rattle.co_object.specs.declared.QOp.{QOp}
use Rattle.co_object.specs.declared.QOp.TheVariants as queue
use Rattle.co_object.specs.declared.QReply.{QReply}
use Rattle.co_object.specs.declared.QReply.TheVariants as answer
use Rattle.co_object.specs.declared.AnyEntry.TheVariants.{Timer, Cpu, Own}
use Rattle.co_object.specs.declared.Place.{Place}
use Rattle.co_object.specs.declared.Place.TheVariants as place
use Rattle.co_text.specs.Fallible.{◌>>=◌, ◌>>◌, unless}
use Rattle.co_text.specs.Values.{Word, is_word}
use Rattle.co_text.specs.Taking.{Read, next, ended, is_next, after_next, option}
use Rattle.co_text.specs.declared.Cause.{Cause}
use Rattle.co_text.specs.declared.Cause.TheVariants.{Form, Note}
use Rattle.co_notes.specs.declared.reading.names.Names.{Names}
use Rattle.co_notes.specs.declared.reading.values.Maker.{Maker}
use Rattle.co_notes.specs.declared.reading.notes.NumberedEntry.{NumberedEntry}
use Rattle.co_notes.specs.NoteValues.{count64, count32, time_in_units, arming, given, callout_value, func_of, cpu_in, or_dash, truth, code, maker, maker_is, own_kind}
use Rattle.co_notes.specs.Parts.{parts}

-- ---- readers

abbrev pub Reader : Type 0 → Type 0
Reader X = List Word → Read X

-- nothing
abbrev pub reads_nothing : {X : Type 0} → X → Reader X
reads_nothing x ws = Ok (x, ws)

-- one thing, and then another
abbrev pub both : {A B : Type 0} → Reader A → Reader B → Reader (A × B)
both first second ws = first ws >>= λ a. second a.1 >>= λ b. Ok ((a.0, b.0), b.1)

-- this very word
abbrev pub literal : Word → List Word → Read Bool
literal v ws = next (λ w. unless (is_word w v) Form) ws

-- something behind a word
abbrev pub behind_literal : {A : Type 0} → Word → Reader A → Reader A
behind_literal v r ws = literal v ws >>= λ l. r l.1

-- what is made of something
abbrev pub made : {A B : Type 0} → (A → B) → Reader A → Reader B
made make r ws = r ws >>= λ a. Ok (make a.0, a.1)

-- something that passes a test
abbrev pub such : {A : Type 0} → (A → Bool) → Reader A → Reader A
such test r ws = r ws >>= λ a. unless (test a.0) Form >>= λ _. Ok a

-- what stands behind a word, by this word
abbrev pub choice : {X : Type 0} → List (Word × Reader X) → Word → Reader X
choice [] w ws = Err Form
choice (c ∷ cs) w ws = if is_word w c.0 then c.1 ws else choice cs w ws

-- a word, and what stands behind it
abbrev pub one_of : {X : Type 0} → List (Word × Reader X) → Reader X
one_of cs ws = next Ok ws >>= λ w. choice cs w.0 w.1

-- something, behind which no word follows
abbrev pub whole : {X : Type 0} → Reader X → List Word → Result X Cause
whole r ws = do
  x ← r ws
  ended x.1
  Ok x.0

-- ---- operations on a callout

-- `uDUE pr uPREC`
abbrev pub due_and_precision : Reader (ℕ × ℕ)
due_and_precision = both (next time_in_units) (behind_literal (codes "pr") (next time_in_units))

-- `cpu pC` or `cpu -`
abbrev pub target : Names → Reader (Option ℕ)
target n = behind_literal (codes "cpu") (next (or_dash (cpu_in n)))

abbrev pub reset_form : Names → Reader Op
reset_form n = made (λ x. Call (Plain (Reset x.0.0 x.0.1 x.1.0.0 x.1.0.1 x.1.1))) (both due_and_precision (both (both (next (func_of n)) (next given)) (target n)))

abbrev pub schedule_form : Names → Reader Op
schedule_form n = made (λ x. Call (Plain (Schedule x.0.0 x.0.1 x.1))) (both due_and_precision (target n))

-- `#N pC`
abbrev pub arming_and_cpu : Names → Reader (ℕ × ℕ)
arming_and_cpu n = both (next arming) (next (cpu_in n))

abbrev pub pick_form : Names → Reader Op
pick_form n = made (λ x. Run (Pick x.0.0 x.0.1 x.1)) (both (arming_and_cpu n) (next time_in_units))

abbrev pub begin_form : Names → Reader Op
begin_form n = made (λ x. Run (Begin x.0 x.1)) (arming_and_cpu n)

abbrev pub end_form : Names → Reader Op
end_form n = made (λ x. Run (End x.0 x.1)) (arming_and_cpu n)

abbrev pub adrain_form : Names → Reader Op
adrain_form n = made (λ f. Call (Plain (AsyncDrain f))) (next (func_of n))

abbrev pub drain_form : Reader Op
drain_form = made (λ took. Call (DrainTry took)) (next truth)

-- what a CPU does with a callout in service, and all. A table opens only where its words are told apart
unfoldable pub run_forms : Names → List (Word × Reader Op)
run_forms n =
    (codes "pick", pick_form n)
    ∷ (codes "begin", begin_form n)
    ∷ (codes "end", end_form n)
    ∷ []

unfoldable pub op_forms : Names → List (Word × Reader Op)
op_forms n =
    (codes "reset", reset_form n)
    ∷ (codes "schedule", schedule_form n)
    ∷ (codes "stop", reads_nothing (Call (Plain Stop)))
    ∷ (codes "adrain", adrain_form n)
    ∷ (codes "active", reads_nothing (Call (Plain Active)))
    ∷ (codes "pending", reads_nothing (Call (Plain Pending)))
    ∷ (codes "deactivate", reads_nothing (Call (Plain Deactivate)))
    ∷ (codes "init", reads_nothing (Call (Plain Init)))
    ∷ (codes "retire", reads_nothing (Call (Plain Retire)))
    ∷ (codes "drain", drain_form)
    ∷ run_forms n

abbrev pub op_form : Names → Reader Op
op_form n = one_of (op_forms n)

-- ---- replies of a callout

-- `off pC` or `off -`
abbrev pub off_form : Names → Reader (Option ℕ)
off_form n = behind_literal (codes "off") (next (or_dash (cpu_in n)))

abbrev pub armed_form : Names → Reader Reply
armed_form n = made (λ x. reply.Armed x.0 x.1.0.0 x.1.0.1 x.1.1) (both (next code) (both (arming_and_cpu n) (off_form n)))

abbrev pub not_armed_form : Reader Reply
not_armed_form = made (λ c. reply.NotArmed c) (next code)

abbrev pub stopped_form : Names → Reader Reply
stopped_form n = made (λ x. reply.Stopped x.0 x.1) (both (next code) (off_form n))

abbrev pub wait_form : Names → Reader Reply
wait_form n = made (λ x. reply.Wait x.0.0 x.0.1 x.1) (both (both (next arming) (next truth)) (off_form n))

abbrev pub drained_form : Names → Reader Reply
drained_form n = made (λ x. reply.Drained x.0 x.1) (both (next code) (off_form n))

abbrev pub in_use_form : Reader Reply
in_use_form = made (λ x. reply.InUse x.0 x.1) (both (next truth) (next truth))

abbrev pub go_form : Names → Reader Reply
go_form n = made (λ x. reply.Go x.0 x.1) (both (next (func_of n)) (next given))

-- `#N pC uDUE`
abbrev pub later_form : Names → Reader Next
later_form n = made (λ x. record { n = x.0.0; cpu = x.0.1; due = x.1 }) (both (arming_and_cpu n) (next time_in_units))

-- `#N pC uDUE` or `-`
abbrev pub next_form : Names → Reader (Option Next)
next_form n ws = option (codes "-") ws >>= λ none. if none.0 then Ok (None, none.1) else made (λ x. Some x) (later_form n) none.1

abbrev pub drain_named : Names → Reader (Option ℕ)
drain_named n = behind_literal (codes "drain") (next (or_dash (func_of n)))

abbrev pub next_named : Names → Reader (Option Next)
next_named n = behind_literal (codes "next") (next_form n)

abbrev pub woke_form : Reader Bool
woke_form = behind_literal (codes "woke") (next truth)

abbrev pub ended_form : Names → Reader Reply
ended_form n = made (λ x. reply.Ended x.0 x.1.0 x.1.1) (both (drain_named n) (both (next_named n) woke_form))

-- the replies with values, and all
unfoldable pub valued_replies : Names → List (Word × Reader Reply)
valued_replies n =
    (codes "armed", armed_form n)
    ∷ (codes "notarmed", not_armed_form)
    ∷ (codes "stopped", stopped_form n)
    ∷ (codes "wait", wait_form n)
    ∷ (codes "drained", drained_form n)
    ∷ (codes "inuse", in_use_form)
    ∷ (codes "go", go_form n)
    ∷ (codes "ended", ended_form n)
    ∷ []

unfoldable pub reply_forms : Names → List (Word × Reader Reply)
reply_forms n =
    (codes "nohandler", reads_nothing reply.NoHandler)
    ∷ (codes "worn", reads_nothing reply.Worn)
    ∷ (codes "busy", reads_nothing reply.Busy)
    ∷ (codes "yes", reads_nothing reply.Yes)
    ∷ (codes "no", reads_nothing reply.No)
    ∷ (codes "done", reads_nothing reply.Done)
    ∷ (codes "live", reads_nothing reply.Live)
    ∷ (codes "retired", reads_nothing reply.Retired)
    ∷ (codes "hold", reads_nothing reply.Hold)
    ∷ (codes "skip", reads_nothing reply.Skip)
    ∷ valued_replies n

abbrev pub reply_form : Names → Reader Reply
reply_form n = one_of (reply_forms n)

-- ---- operations on a timer queue, and their answers

-- `direct` or not
abbrev pub direct_or : QOp → QOp → Reader QOp
direct_or direct other ws = if is_next (codes "direct") ws then Ok (direct, after_next ws) else Ok (other, ws)

abbrev pub insert_form : Names → Reader QOp
insert_form n = made (λ x. queue.Insert x.0 x.1.0 x.1.1) (both (next (callout_value n)) (both (next arming) (next time_in_units)))

abbrev pub got_form : Names → Reader QReply
got_form n = made (λ x. answer.Got x.0 x.1.0 x.1.1) (both (next (callout_value n)) (both (next arming) (next time_in_units)))

abbrev pub remove_form : Names → Reader QOp
remove_form n = made (λ i. queue.Remove i) (next (callout_value n))

abbrev pub scan_form : Reader QOp
scan_form = made (λ t. queue.Scan t) (next time_in_units)

abbrev pub at_form : Reader QReply
at_form = made (λ t. answer.At t) (next time_in_units)

abbrev pub count_form : Reader QReply
count_form = made (λ k. answer.Count k) (next count32)

unfoldable pub queue_forms : Names → List (Word × Reader QOp)
queue_forms n =
    (codes "insert", insert_form n)
    ∷ (codes "remove", remove_form n)
    ∷ (codes "scan", scan_form)
    ∷ (codes "pop", direct_or queue.PopDirect queue.Pop)
    ∷ (codes "free", direct_or queue.FreeDirect queue.Free)
    ∷ []

abbrev pub queue_form : Names → Reader QOp
queue_form n = one_of (queue_forms n)

unfoldable pub answer_forms : Names → List (Word × Reader QReply)
answer_forms n =
    (codes "at", at_form)
    ∷ (codes "off", reads_nothing answer.Off)
    ∷ (codes "missing", reads_nothing answer.Missing)
    ∷ (codes "count", count_form)
    ∷ (codes "got", got_form n)
    ∷ (codes "empty", reads_nothing answer.Empty)
    ∷ (codes "freed", reads_nothing answer.Freed)
    ∷ []

abbrev pub answer_form : Names → Reader QReply
answer_form n = one_of (answer_forms n)

-- the answers that each operation may have
abbrev pub may_answer : QOp → QReply → Bool
may_answer (queue.Insert i n t) (answer.At u) = true
may_answer (queue.Remove i) answer.Off = true
may_answer (queue.Remove i) answer.Missing = true
may_answer (queue.Scan now) (answer.Count k) = true
may_answer queue.Pop (answer.Got i n at) = true
may_answer queue.Pop answer.Empty = true
may_answer queue.PopDirect (answer.Got i n at) = true
may_answer queue.PopDirect answer.Empty = true
may_answer queue.Free answer.Freed = true
may_answer queue.FreeDirect answer.Freed = true
may_answer o a = false

-- ---- notes

-- an operation, `=` and its answer
abbrev pub answered_form : {X Y : Type 0} → Reader X → Reader Y → Reader (X × Y)
answered_form op reply = both op (behind_literal (codes "=") reply)

abbrev pub call_form : Names → Reader (Op × Reply)
call_form n = answered_form (op_form n) (reply_form n)

-- an answer of the operation
abbrev pub journal_form : Names → Reader (QOp × QReply)
journal_form n = such (λ x. may_answer x.0 x.1) (answered_form (queue_form n) (answer_form n))

-- a note's number, who made it, and what it says
abbrev pub head_form : (Word → Result Maker Cause) → Reader (ℕ × Maker)
head_form by = both (next count64) (next by)

-- a note of a timer, of a CPU's queue, and of an actor's own
abbrev pub timer_form : Names → Reader NumberedEntry
timer_form n = made (λ x. record { number = x.0.0; entry = Timer (record { actor = x.0.1.actor; act = x.0.1.act; op = x.1.0; reply = x.1.1 }) }) (both (head_form (maker n)) (call_form n))

abbrev pub wheel_form : Names → Reader NumberedEntry
wheel_form n = made (λ x. record { number = x.0.0; entry = Cpu (record { actor = x.0.1.actor; act = x.0.1.act; op = x.1.0; reply = x.1.1 }) }) (both (head_form (maker n)) (journal_form n))

abbrev pub own_form : Names → ℕ → Reader NumberedEntry
own_form n actor = made (λ x. record { number = x.0.0; entry = Own (record { actor = x.0.1.actor; act = x.0.1.act; kind = x.1 }) }) (both (head_form (maker_is n actor)) (next own_kind))

-- a note of a place
abbrev pub note_form : Names → Place → Reader NumberedEntry
note_form n (place.Timer i) = timer_form n
note_form n (place.Cpu c) = wheel_form n
note_form n (place.Actor a) = own_form n a

-- the cause is `note`, whatever is wrong with it
abbrev pub or_note : {X : Type 0} → Result X Cause → Result X Cause
or_note (Ok x) = Ok x
or_note (Err c) = Err Note

-- the note that a line shows; before the first heading there is none
abbrev pub shown_note : Names → Option Place → List ℕ → Result NumberedEntry Cause
shown_note n None line = Err Note
shown_note n (Some p) line = or_note (whole (note_form n p) (parts line))
