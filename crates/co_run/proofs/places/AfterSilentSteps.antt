-- Where an actor is in its program after a step without a note.
use Rattle.std.proofs.Common.{◌≡◌, ℕ, ◌<◌, Bool, true, false, List, [], ◌∷◌, refl, subst, ◌∙◌, Option, Some, None, ◌⊎◌, inl, inr}
use Rattle.std.specs.Prelude.{is_some}
use Rattle.std.specs.List.{AllByRecursion}
use Rattle.co_object.specs.declared.Op.TheVariants.{Call}
use Rattle.co_object.specs.declared.PlainOp.{PlainOp}
use Rattle.co_object.specs.declared.CallOp.TheVariants.{Plain, DrainTry}
use Rattle.co_object.specs.declared.OwnKind.TheVariants.{NotHeld, HoldsLock, Holding, NotHolding}
use Rattle.co_lock.specs.declared.Held.{Held}
use Rattle.co_lock.specs.Covers.{covers}
use Rattle.co_lock.specs.Service.{hold_of}
use Rattle.co_program.specs.declared.Script.{Script}
use Rattle.co_program.specs.declared.Act.{Act}
use Rattle.co_program.specs.declared.Act.TheVariants.{Now, Lock, ReadLock, Unlock, Drain, Tick}
use Rattle.co_program.specs.declared.Task.{Task}
use Rattle.co_program.specs.declared.Task.TheVariants.{Does, Soft}
use Rattle.co_program.specs.declared.Role.{Role}
use Rattle.co_program.specs.declared.Role.TheVariants.{Client, Cpu, Interrupt}
use Rattle.co_program.specs.declared.InService.{InService}
use Rattle.co_program.specs.declared.PendingInsert.{PendingInsert}
use Rattle.co_program.specs.declared.Asked.TheVariants.{Callout, Itself}
use Rattle.co_program.specs.Scripts.{IsScript}
use Rattle.co_program.specs.Calls.{plain_op}
use Rattle.co_program.specs.Stages.{Stage, Ready, Waiting, Popping, Picking, Locking, Beginning, Unlocking, Firing, Releasing, Ending, Freeing, Drained}
use Rattle.co_program.specs.Cursor.{Cursor}
use Rattle.co_program.specs.Action.{Action, Nothing, Silent, Take, Asks, firing, action_for, action_with, action_in, begins_next, takes, over, asks_drain, asks_covered, asks_within, drained_of, locks as locks_for, spec_at}
use Rattle.co_program.specs.Actors.{role_of, cpu_of, actor_count}
use Rattle.co_program.specs.Existing.{ActionExists, IsIn}
use Rattle.co_program.proofs.Existing.{action_exists}
use Rattle.co_world.proofs.basics.Actions.{IsAction, due_stage, drops, passes, grabs, enters, unlocks, releases}
use Rattle.co_world.proofs.kept.Invariant.{IsBetween, HoldFits}
use Rattle.co_world.proofs.basics.Updates.{at_choice}
use Rattle.co_world.proofs.kept.Stages.{Fits, fits_silent, fits_take}
use Rattle.co_desk.specs.Views.{PassesView}
use Rattle.co_run.specs.Acting.{CursorFits, ServesAsStage, TaskLocks, HasLocks, HeldExists}
use Rattle.co_run.proofs.places.AfterCalls.{firing_between, serves_firing}

-- ---- what is told of every action that is due

-- a step without a note keeps the hold or drops it, and a lock that is taken exists
abbrev IsQuiet : Script → Cursor → Action → Type 0
IsQuiet s c (Silent to) = (to.hold ≡ None) ⊎ (to.hold ≡ c.hold)
IsQuiet s c (Take held to) = HeldExists s.locks held × (to.hold ≡ Some held) × (c.hold ≡ None)
IsQuiet s c action = Unit {0}

none_of : (o : Option Held) → is_some o ≡ false → o ≡ None
none_of None h = refl
none_of (Some x) h = cc

module _ (s : Script) (role : Role) (c : Cursor) where
  quiet_covered : (call : Option (ℕ × PlainOp)) → IsQuiet s c (asks_covered s c.hold c.act call)
  quiet_covered None = tt
  quiet_covered (Some (i, op)) = at_choice (IsQuiet s c) (covers c.hold (spec_at s i) (Plain op)) (Asks c.act (Callout i (Call (Plain op)))) (Asks c.act (Itself NotHeld)) (λ h. tt) (λ h. tt)

  quiet_within : (v : InService) (acts : List Act) → IsQuiet s c (asks_within s (cpu_of s role) c v acts)
  quiet_within v [] = tt
  quiet_within v (act ∷ acts) = quiet_covered (plain_op act s.hz (record { time = v.at; here = cpu_of s role; me = v.i }))

  quiet_drain : (i : ℕ) (took : Bool) → IsQuiet s c (asks_drain c i took)
  quiet_drain i took = at_choice (IsQuiet s c) (is_some c.hold) (Asks c.act (Itself HoldsLock)) (Asks c.act (Callout i (Call (DrainTry took)))) (λ h. tt) (λ h. tt)

  quiet_takes : (left : List Task) (held : Held) → HeldExists s.locks held → IsQuiet s c (takes c left held)
  quiet_takes left held exists = at_choice (IsQuiet s c) (is_some c.hold) (Asks c.act (Itself Holding)) (Take held (over c left (Some held))) (λ h. tt) (λ h. (exists, refl, none_of c.hold h))

  quiet_begins : (left : List Task) → AllByRecursion (TaskLocks s) left → IsQuiet s c (begins_next s role c left)
  quiet_begins [] exist = at_choice (IsQuiet s c) (is_some c.hold) (Silent (record c { left = []; hold = None; stage = Ready })) Nothing (λ h. inl refl) (λ h. tt)
  quiet_begins (Does (Now time) ∷ left) exist = inr refl
  quiet_begins (Does (Lock id) ∷ left) exist = quiet_takes left (record { id = id; exclusive = true }) exist.0
  quiet_begins (Does (ReadLock id) ∷ left) exist = quiet_takes left (record { id = id; exclusive = false }) exist.0
  quiet_begins (Does Unlock ∷ left) exist = at_choice (IsQuiet s c) (is_some c.hold) (Silent (over c left None)) (Asks c.act (Itself NotHolding)) (λ h. inl refl) (λ h. tt)
  quiet_begins (Does (Drain i) ∷ left) exist = quiet_drain i false
  quiet_begins (Does (Tick time) ∷ left) exist = tt
  quiet_begins (Does act ∷ left) exist = quiet_covered (plain_op act s.hz (record { time = c.now; here = cpu_of s role; me = 0 }))
  quiet_begins (Soft j ∷ left) exist = tt

  quiet_locks : HasLocks s → (v : InService) → c.hold ≡ None → (hold : Option Held) → hold_of (spec_at s v.i).lock ≡ hold → IsQuiet s c (locks_for s c v hold)
  quiet_locks has v none None is = tt
  quiet_locks has v none (Some held) is = (has.specs v.i held is, refl, none)

  -- a service takes its lock with empty hands
  abbrev EntersFree : Stage → Type 0
  EntersFree (Locking v) = c.hold ≡ None
  EntersFree stage = Unit {0}

  quiet_stage : HasLocks s → AllByRecursion (TaskLocks s) c.left → (stage : Stage) → EntersFree stage → IsQuiet s c (action_in s role c stage)
  quiet_stage has exist Ready free = quiet_begins c.left exist
  quiet_stage has exist (Waiting n took) free = quiet_drain (drained_of c.left) took
  quiet_stage has exist (Popping act) free = tt
  quiet_stage has exist (Picking v) free = tt
  quiet_stage has exist (Locking v) free = quiet_locks has v free (hold_of (spec_at s v.i).lock) refl
  quiet_stage has exist (Beginning v) free = tt
  quiet_stage has exist (Unlocking v acts) free = inl refl
  quiet_stage has exist (Firing v acts) free = quiet_within v acts
  quiet_stage has exist (Releasing v) free = inl refl
  quiet_stage has exist (Ending v) free = tt
  quiet_stage has exist (Freeing v drain next) free = tt
  quiet_stage has exist (Drained v acts) free = quiet_within v acts

  quiet_with : HasLocks s → AllByRecursion (TaskLocks s) c.left → EntersFree c.stage → (parcel : Option PendingInsert) → IsQuiet s c (action_with s role c parcel)
  quiet_with has exist free None = quiet_stage has exist c.stage free
  quiet_with has exist free (Some p) = tt

enters_free : (s : Script) (role : Role) (c : Cursor) (stage : Stage) → HoldFits s role c.hold stage → EntersFree s role c stage
enters_free s (Client k) c (Locking v) h = absurd h
enters_free s (Cpu x) c (Locking v) h = h.0
enters_free s (Interrupt x) c (Locking v) h = h.0
enters_free s role c Ready h = tt
enters_free s role c (Waiting n took) h = tt
enters_free s role c (Popping act) h = tt
enters_free s role c (Picking v) h = tt
enters_free s role c (Beginning v) h = tt
enters_free s role c (Unlocking v acts) h = tt
enters_free s role c (Firing v acts) h = tt
enters_free s role c (Releasing v) h = tt
enters_free s role c (Ending v) h = tt
enters_free s role c (Freeing v drain next) h = tt
enters_free s role c (Drained v acts) h = tt

quiet_of : (s : Script) → HasLocks s → (a : ℕ) (c : Cursor) (due : Action) → CursorFits s a c → action_for s a c ≡ due → IsQuiet s c due
quiet_of s has a c due place is = subst (IsQuiet s c) is (quiet_with s (role_of s a) c has place.locks (enters_free s (role_of s a) c c.stage place.fits.hold) c.parcel)

pub silent_hold : (s : Script) → HasLocks s → (a : ℕ) (c to : Cursor) → CursorFits s a c → action_for s a c ≡ Silent to → (to.hold ≡ None) ⊎ (to.hold ≡ c.hold)
silent_hold s has a c to place is = quiet_of s has a c (Silent to) place is

pub take_hold : (s : Script) → HasLocks s → (a : ℕ) (c to : Cursor) (held : Held) → CursorFits s a c → action_for s a c ≡ Take held to → HeldExists s.locks held × (to.hold ≡ Some held) × (c.hold ≡ None)
take_hold s has a c to held place is = quiet_of s has a c (Take held to) place is

-- ---- the place

-- what a step without a note keeps, beside that the place fits
record IsPassed (s : Script) (role : Role) (c to : Cursor) : Type 0 where
  locks : AllByRecursion (TaskLocks s) to.left
  parcel : to.parcel ≡ c.parcel
  removed : to.removed ≡ c.removed
  between : IsBetween to.stage
  serves : (q : PassesView) → ServesAsStage role q c.stage → ServesAsStage role q to.stage

passed_left : (s : Script) (c : Cursor) (task : Task) (left : List Task) → c.left ≡ task ∷ left → AllByRecursion (TaskLocks s) c.left → AllByRecursion (TaskLocks s) left
passed_left s c task left is all = let k : AllByRecursion (TaskLocks s) (task ∷ left) = subst (AllByRecursion (TaskLocks s)) is all in k.1

serves_unlocks : (role : Role) (q : PassesView) (v : InService) (acts : List Act) → ServesAsStage role q (Unlocking v acts) → ServesAsStage role q (firing v None acts)
serves_unlocks (Client k) q v acts h = tt
serves_unlocks (Cpu x) q v acts h = serves_firing false q x v None acts h
serves_unlocks (Interrupt x) q v acts h = serves_firing true q x v None acts h

serves_releases : (role : Role) (q : PassesView) (v : InService) → ServesAsStage role q (Releasing v) → ServesAsStage role q (Ending v)
serves_releases (Client k) q v h = tt
serves_releases (Cpu x) q v h = h
serves_releases (Interrupt x) q v h = h

serves_enters : (role : Role) (q : PassesView) (v : InService) → ServesAsStage role q (Locking v) → ServesAsStage role q (Beginning v)
serves_enters (Client k) q v h = tt
serves_enters (Cpu x) q v h = h
serves_enters (Interrupt x) q v h = h

module _ (s : Script) (role : Role) (c : Cursor) (all : AllByRecursion (TaskLocks s) c.left) where
  abbrev Passed : Stage → Cursor → Type 0
  Passed stage to = c.stage ≡ stage → IsPassed s role c to

  silent_passed : (stage : Stage) (to : Cursor) → IsAction s role c stage (Silent to) → Passed stage to
  silent_passed stage to (drops is some) at = record { locks = tt; parcel = refl; removed = refl; between = tt; serves = λ q h. subst (ServesAsStage role q) at h }
  silent_passed stage to (passes task left now hold is own) at = record { locks = passed_left s c task left is all; parcel = refl; removed = refl; between = tt; serves = λ q h. subst (ServesAsStage role q) at h }
  silent_passed stage to (unlocks v acts) at = record { locks = all; parcel = refl; removed = refl; between = firing_between v None acts; serves = λ q h. serves_unlocks role q v acts (subst (ServesAsStage role q) at h) }
  silent_passed stage to (releases v) at = record { locks = all; parcel = refl; removed = refl; between = tt; serves = λ q h. serves_releases role q v (subst (ServesAsStage role q) at h) }

  take_passed : (stage : Stage) (held : Held) (to : Cursor) → IsAction s role c stage (Take held to) → Passed stage to
  take_passed stage held to (grabs task left x is own none) at = record { locks = passed_left s c task left is all; parcel = refl; removed = refl; between = tt; serves = λ q h. subst (ServesAsStage role q) at h }
  take_passed stage held to (enters v x is) at = record { locks = all; parcel = refl; removed = refl; between = tt; serves = λ q h. serves_enters role q v (subst (ServesAsStage role q) at h) }

pub stage_view : (s : Script) (a : ℕ) (c : Cursor) (due : Action) → c.parcel ≡ None → action_for s a c ≡ due → IsAction s (role_of s a) c c.stage due
stage_view s a c due none is = subst (IsAction s (role_of s a) c c.stage) (subst (λ (x : Option PendingInsert). action_with s (role_of s a) c x ≡ due) none is) (due_stage s (role_of s a) c c.stage)

module _ (s : Script) (ok : IsScript s) (a : ℕ) (c to : Cursor) (below : a < actor_count s) (place : CursorFits s a c) where
  placed_after : (due : Action) → action_for s a c ≡ due → (ActionExists s due → IsIn s to) → Fits s (role_of s a) to → IsPassed s (role_of s a) c to → CursorFits s a to
  placed_after due is goes fits passed = record {
    fits = fits;
    is_in = goes (subst (ActionExists s) is (action_exists s ok a below c place.is_in));
    locks = passed.locks;
    parcel = passed.parcel ∙ place.parcel;
    removed = passed.removed ∙ place.removed;
    between = passed.between;
  }

  silent_at : action_for s a c ≡ Silent to → IsPassed s (role_of s a) c to
  silent_at is = silent_passed s (role_of s a) c place.locks c.stage to (stage_view s a c (Silent to) place.parcel is) refl

  take_at : (held : Held) → action_for s a c ≡ Take held to → IsPassed s (role_of s a) c to
  take_at held is = take_passed s (role_of s a) c place.locks c.stage held to (stage_view s a c (Take held to) place.parcel is) refl

  pub silent_placed : action_for s a c ≡ Silent to → CursorFits s a to
  silent_placed is = placed_after (Silent to) is (λ h. h) (fits_silent s ok (role_of s a) c.left c.act c.now c.hold c.removed c.parcel c.stage to (stage_view s a c (Silent to) place.parcel is) place.fits) (silent_at is)

  pub silent_serves : (q : PassesView) → action_for s a c ≡ Silent to → ServesAsStage (role_of s a) q c.stage → ServesAsStage (role_of s a) q to.stage
  silent_serves q is h = (silent_at is).serves q h

  pub take_placed : (held : Held) → action_for s a c ≡ Take held to → CursorFits s a to
  take_placed held is = placed_after (Take held to) is (λ h. h) (fits_take s ok (role_of s a) c.left c.act c.now c.hold c.removed c.parcel c.stage to held (stage_view s a c (Take held to) place.parcel is) place.fits) (take_at held is)

  pub take_serves : (held : Held) (q : PassesView) → action_for s a c ≡ Take held to → ServesAsStage (role_of s a) q c.stage → ServesAsStage (role_of s a) q to.stage
  take_serves held q is h = (take_at held is).serves q h
