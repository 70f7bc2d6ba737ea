-- Worked values, by computation: the first draw of seed 1 and its group, and the counts of a callout that is armed twice.
use Rattle.std.proofs.Common.{◌≡◌, ℕ, take, List, [], ◌∷◌, false, pos, refl, Some, None}
use Rattle.co_object.specs.declared.LockUse.TheVariants.{Free, Mtx, Rw}
use Rattle.co_object.specs.declared.Spec.{Spec}
use Rattle.co_object.specs.declared.PlainOp.TheVariants as plain
use Rattle.co_object.specs.declared.CallOp.TheVariants.{Plain}
use Rattle.co_object.specs.declared.RunOp.TheVariants as run
use Rattle.co_object.specs.declared.Op.{Op}
use Rattle.co_object.specs.declared.Op.TheVariants.{Call, Run}
use Rattle.co_object.specs.declared.Reply.{Reply}
use Rattle.co_object.specs.declared.Reply.TheVariants as reply
use Rattle.co_object.specs.declared.Note.{Note}
use Rattle.co_object.specs.declared.Place.TheVariants as place
use Rattle.co_object.specs.declared.AnyEntry.TheVariants.{Timer}
use Rattle.co_program.specs.declared.Act.TheVariants as act
use Rattle.co_program.specs.declared.Script.{Script}
use Rattle.co_gen.specs.Generator.{state_after, draw, lock_use, group_of}
use Rattle.co_gen.specs.Soak.{counts_of}

first-state : state_after 1 1 ≡ 7806831264735756412
unfolding state_after
first-state = refl

first-draw : draw 1 0 ≡ 908834774
unfolding state_after
first-draw = refl

first-group : group_of 1 0 ≡ act.Now 0 ∷ act.Drain 22 ∷ []
unfolding state_after
first-group = refl

-- the locks of the last four callouts
last-locks : (lock_use 60 ∷ lock_use 61 ∷ lock_use 62 ∷ lock_use 63 ∷ []) ≡ (Free ∷ Mtx 6 ∷ Rw 7 ∷ Mtx 6 ∷ [])
last-locks = refl

-- a reset takes the place of the one before it, which fires

abbrev free : Spec
free = record { lock = Free; returns_unlocked = false; direct = false }

abbrev one_timer : Script
one_timer = record { version = 1; hz = 1000; cpus = 1; buckets = 256; locks = []; timers = free ∷ []; funcs = [] ∷ []; clients = [] ∷ []; ticks = [] ∷ []; turns = [] }

abbrev note : ℕ → ℕ → Op → Reply → Note
note at actor op reply' = record { place = place.Timer 0; pos = at; entry = Timer (record { actor = actor; act = 0; op = op; reply = reply' }) }

-- the client's notes, and the CPU's
abbrev replaced : List (List Note)
replaced =
    (note 0 0 (Call (Plain (plain.Reset 4294967296 0 0 1 None))) (reply.Armed (pos 0) 0 0 None)
    ∷ note 1 0 (Call (Plain (plain.Reset 8589934592 0 0 2 None))) (reply.Armed (pos 1) 1 0 (Some 0))
    ∷ [])
    ∷ (note 2 1 (Run (run.Pick 1 0 8589934592)) (reply.Go 0 2)
    ∷ note 3 1 (Run (run.End 1 0)) (reply.Ended None None false)
    ∷ [])
    ∷ []

replaced-counts : counts_of one_timer replaced ≡ record { notes = 4; armed = 2; fired = 1; superseded = 1; stopped = 0; pending = 0 }
unfolding counts_of
replaced-counts = refl

-- the same before the CPU's notes
armed-counts : counts_of one_timer (take 1 replaced) ≡ record { notes = 2; armed = 2; fired = 0; superseded = 1; stopped = 0; pending = 1 }
unfolding counts_of
armed-counts = refl
