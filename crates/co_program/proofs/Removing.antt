-- What an actor asks does not change with the Remove of the call under way.
use Rattle.std.proofs.Common.{◌≡◌, ℕ, Bool, true, false, cond, List, [], ◌∷◌, refl, subst, Option, Some, None}
use Rattle.std.specs.Prelude.{⊤, is_some}
use Rattle.co_object.specs.declared.OwnKind.TheVariants.{Holding, NotHolding}
use Rattle.co_lock.specs.declared.Held.{Held}
use Rattle.co_lock.specs.Service.{hold_of}
use Rattle.co_program.specs.declared.act.Act.{Act}
use Rattle.co_program.specs.declared.act.Act.TheVariants.{Now, Lock, ReadLock, Unlock, Drain, Tick}
use Rattle.co_program.specs.declared.script.Script.{Script}
use Rattle.co_program.specs.declared.role.Role.{Role}
use Rattle.co_program.specs.declared.program.Task.{Task}
use Rattle.co_program.specs.declared.program.Task.TheVariants.{Does, Soft}
use Rattle.co_program.specs.declared.cursor.InService.{InService}
use Rattle.co_program.specs.declared.cursor.PendingInsert.{PendingInsert}
use Rattle.co_program.specs.declared.action.Asked.{Asked}
use Rattle.co_program.specs.declared.action.Asked.TheVariants.{Itself}
use Rattle.co_program.specs.Actors.{role_of, cpu_of}
use Rattle.co_program.specs.Calls.{plain_op}
use Rattle.co_program.specs.Stages.{Stage, Ready, Waiting, Popping, Picking, Locking, Beginning, Unlocking, Firing, Releasing, Ending, Freeing, Drained}
use Rattle.co_program.specs.Cursor.{Cursor}
use Rattle.co_program.specs.Action.{Action, Nothing, Silent, Take, Asks, spec_at, asks_covered, asks_within, takes, asks_drain, begins_next, drained_of, locks, over, action_in, action_with, action_for}

abbrev SameAsks : Action → Action → Type 0
SameAsks (Asks act asked) due = due ≡ Asks act asked
SameAsks other due = ⊤

same_choice : (b : Bool) (x y x' y' : Action) → SameAsks x x' → SameAsks y y' → SameAsks (cond b x y) (cond b x' y')
same_choice true x y x' y' h k = h
same_choice false x y x' y' h k = k

same_asks : (due : Action) → SameAsks due due
same_asks (Asks act asked) = refl
same_asks Nothing = tt
same_asks (Silent to) = tt
same_asks (Take held to) = tt

module _ (s : Script) (role : Role) (c : Cursor) (removed : Option ℕ) where
  abbrev c' : Cursor
  c' = record c { removed = removed }

  same_takes : (left : List Task) (held : Held) → SameAsks (takes c left held) (takes c' left held)
  same_takes left held = same_choice (is_some c.hold) (Asks c.act (Itself Holding)) (Take held (over c left (Some held))) (Asks c.act (Itself Holding)) (Take held (over c' left (Some held))) refl tt

  same_within : (v : InService) (acts : List Act) → SameAsks (asks_within s (cpu_of s role) c v acts) (asks_within s (cpu_of s role) c' v acts)
  same_within v [] = tt
  same_within v (act ∷ acts) = same_asks (asks_covered s c.hold c.act (plain_op act s.hz (record { time = v.at; here = cpu_of s role; me = v.i })))

  same_begins : (left : List Task) → SameAsks (begins_next s role c left) (begins_next s role c' left)
  same_begins [] = same_choice (is_some c.hold) (Silent (record c { left = []; hold = None; stage = Ready })) Nothing (Silent (record c' { left = []; hold = None; stage = Ready })) Nothing tt tt
  same_begins (Does (Now time) ∷ left) = tt
  same_begins (Does (Lock id) ∷ left) = same_takes left (record { id = id; exclusive = true })
  same_begins (Does (ReadLock id) ∷ left) = same_takes left (record { id = id; exclusive = false })
  same_begins (Does Unlock ∷ left) = same_choice (is_some c.hold) (Silent (over c left None)) (Asks c.act (Itself NotHolding)) (Silent (over c' left None)) (Asks c.act (Itself NotHolding)) tt refl
  same_begins (Does (Drain i) ∷ left) = same_asks (asks_drain c i false)
  same_begins (Does (Tick time) ∷ left) = refl
  same_begins (Does act ∷ left) = same_asks (asks_covered s c.hold c.act (plain_op act s.hz (record { time = c.now; here = cpu_of s role; me = 0 })))
  same_begins (Soft j ∷ left) = refl

  same_locks : (v : InService) (hold : Option Held) → SameAsks (locks s c v hold) (locks s c' v hold)
  same_locks v None = tt
  same_locks v (Some held) = tt

  same_stage : (stage : Stage) → SameAsks (action_in s role c stage) (action_in s role c' stage)
  same_stage Ready = same_begins c.left
  same_stage (Waiting n took) = same_asks (asks_drain c (drained_of c.left) took)
  same_stage (Popping act) = refl
  same_stage (Picking v) = refl
  same_stage (Locking v) = same_locks v (hold_of (spec_at s v.i).lock)
  same_stage (Beginning v) = refl
  same_stage (Unlocking v acts) = tt
  same_stage (Firing v acts) = same_within v acts
  same_stage (Releasing v) = tt
  same_stage (Ending v) = refl
  same_stage (Freeing v drain next) = refl
  same_stage (Drained v acts) = same_within v acts

  same_with : (parcel : Option PendingInsert) → SameAsks (action_with s role c parcel) (action_with s role c' parcel)
  same_with None = same_stage c.stage
  same_with (Some p) = refl

pub due_removed : (s : Script) (a : ℕ) (c : Cursor) (removed : Option ℕ) (act : ℕ) (asked : Asked) →
    action_for s a c ≡ Asks act asked → action_for s a (record c { removed = removed }) ≡ Asks act asked
due_removed s a c removed act asked is =
    subst (λ (d : Action). SameAsks d (action_for s a (record c { removed = removed }))) is (same_with s (role_of s a) c removed c.parcel)
