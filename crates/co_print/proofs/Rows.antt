-- Worked rows, by computation.
use Rattle.std.proofs.Common.{◌≡◌, ℕ, false, List, [], ◌∷◌, ◌++◌, refl, pos, None}
use Rattle.std.specs.Prelude.{codes}
use Rattle.std.specs.Fmt.{digits}
use Prim.Native.String.{String}
use Rattle.co_object.specs.declared.LockUse.TheVariants.{Free}
use Rattle.co_object.specs.declared.PlainOp.TheVariants as plain
use Rattle.co_object.specs.declared.CallOp.TheVariants as call
use Rattle.co_object.specs.declared.RunOp.TheVariants as run
use Rattle.co_object.specs.declared.Op.{Op}
use Rattle.co_object.specs.declared.Op.TheVariants.{Call, Run}
use Rattle.co_object.specs.declared.Reply.{Reply}
use Rattle.co_object.specs.declared.Reply.TheVariants as reply
use Rattle.co_object.specs.declared.QOp.{QOp}
use Rattle.co_object.specs.declared.QOp.TheVariants as queue
use Rattle.co_object.specs.declared.QReply.{QReply}
use Rattle.co_object.specs.declared.QReply.TheVariants as answer
use Rattle.co_object.specs.declared.Place.TheVariants as place
use Rattle.co_object.specs.declared.AnyEntry.TheVariants.{Timer, Cpu}
use Rattle.co_object.specs.declared.Note.{Note}
use Rattle.co_program.specs.declared.Script.{Script}
use Rattle.co_program.specs.declared.Act.TheVariants as act
use Rattle.co_program.specs.declared.Who.TheVariants as callout
use Rattle.co_program.specs.declared.When.TheVariants as when
use Rattle.co_program.specs.declared.Where.TheVariants as cpu
use Rattle.co_script.specs.Canonical.{canonical_lines}
use Rattle.co_print.specs.Histories.{shown_history}
use Rattle.co_print.specs.Reports.{report}

abbrev line : String → List ℕ
line s = codes s ++ 10 ∷ []

-- a note on timer 0 and one on CPU 0, at a position
abbrev timer : ℕ → ℕ → ℕ → Op → Reply → Note
timer pos' actor act' op reply' = record { place = place.Timer 0; pos = pos'; entry = Timer (record { actor = actor; act = act'; op = op; reply = reply' }) }

abbrev wheel : ℕ → ℕ → ℕ → QOp → QReply → Note
wheel pos' actor act' op reply' = record { place = place.Cpu 0; pos = pos'; entry = Cpu (record { actor = actor; act = act'; op = op; reply = reply' }) }

abbrev one_firing : Script
one_firing = record { version = 1; hz = 1000; cpus = 1; buckets = 256; locks = []; timers = record { lock = Free; returns_unlocked = false; direct = false } ∷ []; funcs = [] ∷ []; clients = (act.Reset (callout.Timer 0) 0 (when.At 6442450944) 7 cpu.Home 0 ∷ []) ∷ []; ticks = (act.Tick 6442450944 ∷ []) ∷ []; turns = [] }

abbrev one_firing-notes : List (List Note)
one_firing-notes =
    (timer 0 0 0 (Call (call.Plain (plain.Reset 6442450944 0 0 7 None))) (reply.Armed (pos 0) 0 0 None)
    ∷ wheel 0 0 0 (queue.Insert 0 0 6442450944) (answer.At 6442450944)
    ∷ [])
    ∷ (wheel 1 1 0 (queue.Scan 6442450944) (answer.Count 1)
    ∷ wheel 2 1 0 queue.Pop (answer.Got 0 0 6442450944)
    ∷ timer 1 1 0 (Run (run.Pick 0 0 6442450944)) (reply.Go 0 7)
    ∷ timer 2 1 0 (Run (run.End 0 0)) (reply.Ended None None false)
    ∷ wheel 3 1 0 queue.Free answer.Freed
    ∷ wheel 4 1 0 queue.Pop answer.Empty
    ∷ [])
    ∷ []

one_firing-report : report one_firing (shown_history one_firing-notes) ≡ (line "callout-report 1" ++ line "callout 1" ++ line "hz 1000" ++ line "cpus 1" ++ line "wheel 256" ++ line "funcs 1" ++ line "timer 0 mpsafe" ++ line "func 0" ++ line "client 0" ++ line "reset 0 =u6442450944 f0 a7" ++ line "cpu 0" ++ line "tick u6442450944" ++ line "histories" ++ line "timer 0" ++ line "0 c0/0 reset u6442450944 pr u0 f0 a7 cpu - = armed 0 #0 p0 off -" ++ line "2 p0/0 pick #0 p0 u6442450944 = go f0 a7" ++ line "3 p0/0 end #0 p0 = ended drain - next - woke 0" ++ line "wheel 0" ++ line "1 c0/0 insert i0 #0 u6442450944 = at u6442450944" ++ line "0 p0/0 scan u6442450944 = count 1" ++ line "1 p0/0 pop = got i0 #0 u6442450944" ++ line "4 p0/0 free = freed" ++ line "5 p0/0 pop = empty" ++ line "actor c0" ++ line "actor p0" ++ line "end")
unfolding report digits canonical_lines
one_firing-report = refl

abbrev empty : Script
empty = record { version = 1; hz = 1000; cpus = 1; buckets = 256; locks = []; timers = record { lock = Free; returns_unlocked = false; direct = false } ∷ []; funcs = []; clients = []; ticks = [] ∷ []; turns = [] }

empty-report : report empty (shown_history ([] ∷ [])) ≡ (line "callout-report 1" ++ line "callout 1" ++ line "hz 1000" ++ line "cpus 1" ++ line "wheel 256" ++ line "funcs 0" ++ line "timer 0 mpsafe" ++ line "cpu 0" ++ line "histories" ++ line "timer 0" ++ line "wheel 0" ++ line "actor p0" ++ line "end")
unfolding report digits canonical_lines
empty-report = refl
