-- Where a lock is held its holder leads to a step.
use Rattle.std.proofs.Common.{◌≡◌, ℕ, ◌+◌, ◌<◌, true, false, List, [], ◌∷◌, refl, ap, arith, Option, Some, None}
use Rattle.std.specs.Prelude.{is_some}
use Rattle.std.specs.List.{AllByRecursion}
use Rattle.co_object.specs.declared.PlainOp.{PlainOp}
use Rattle.co_object.specs.declared.Op.TheVariants.{Call}
use Rattle.co_object.specs.declared.CallOp.TheVariants.{Plain, DrainTry}
use Rattle.co_object.specs.declared.OwnKind.TheVariants.{NotHeld, HoldsLock, Holding, NotHolding}
use Rattle.co_lock.specs.declared.Held.{Held}
use Rattle.co_lock.specs.Covers.{covers}
use Rattle.co_program.specs.declared.Script.{Script}
use Rattle.co_program.specs.declared.Act.{Act}
use Rattle.co_program.specs.declared.Act.TheVariants.{Now, Lock, ReadLock, Unlock, Reset, Ticks, Schedule, Stop, Drain, AsyncDrain, Active, Pending, Deactivate, Init, Retire, Tick}
use Rattle.co_program.specs.declared.Scene.{Scene}
use Rattle.co_program.specs.Calls.{plain_op}
use Rattle.co_program.specs.Actors.{role_of, cpu_of, actor_count}
use Rattle.co_program.specs.declared.Task.{Task}
use Rattle.co_program.specs.declared.Task.TheVariants.{Does, Soft}
use Rattle.co_program.specs.declared.Role.{Role}
use Rattle.co_program.specs.declared.Role.TheVariants.{Client}
use Rattle.co_program.specs.Stages.{Stage, Ready, Waiting, Popping, Picking, Locking, Beginning, Unlocking, Firing, Releasing, Ending, Freeing, Drained}
use Rattle.co_program.specs.declared.InService.{InService}
use Rattle.co_program.specs.Cursor.{Cursor}
use Rattle.co_program.specs.declared.PendingInsert.{PendingInsert}
use Rattle.co_program.specs.Action.{Nothing, Silent, Take, Asks, action_with, action_in, spec_at, scans_with, scans_at, scans_of, asks_covered, asks_within, takes, begins_next, over}
use Rattle.co_program.specs.declared.Asked.TheVariants.{Callout, Itself}
use Rattle.co_world.specs.World.{World}
use Rattle.co_world.specs.Blocked.{is_locked, is_excluded_by}
use Rattle.co_world.proofs.kept.Invariant.{HoldFits, HasActs, IsTaskOf}
use Rattle.co_program.specs.Scripts.{is_call}
use Rattle.co_world.proofs.kept.BySteps.{IsSteady}
use Rattle.co_world.proofs.stuck.Movers.{Steps, OnlyMoves, only_choice, NoWait, Waits, waits_steps}
use Rattle.co_world.proofs.basics.Ranges.{any_found}

only_covered : (s : Script) (hold : Option Held) (act : ℕ) (call : Option (ℕ × PlainOp)) → is_some call ≡ true → OnlyMoves (asks_covered s hold act call)
only_covered s hold act None h = cc
only_covered s hold act (Some (i, op)) h = only_choice (covers hold (spec_at s i) (Plain op)) (Asks act (Callout i (Call (Plain op)))) (Asks act (Itself NotHeld)) (λ e. tt) (λ e. tt)

-- whether an act is a call does not depend on when and where it is made
call_anywhere : (act : Act) (hz : ℕ) (at : Scene) → is_call act ≡ true → is_some (plain_op act hz at) ≡ true
call_anywhere (Reset who func when arg cpu prec) hz at h = refl
call_anywhere (Ticks who ticks func arg cpu) hz at h = refl
call_anywhere (Schedule who when cpu prec) hz at h = refl
call_anywhere (Stop who) hz at h = refl
call_anywhere (AsyncDrain who func) hz at h = refl
call_anywhere (Active who) hz at h = refl
call_anywhere (Pending who) hz at h = refl
call_anywhere (Deactivate who) hz at h = refl
call_anywhere (Init who) hz at h = refl
call_anywhere (Retire who) hz at h = refl
call_anywhere (Now time) hz at h = cc
call_anywhere (Lock id) hz at h = cc
call_anywhere (ReadLock id) hz at h = cc
call_anywhere Unlock hz at h = cc
call_anywhere (Drain i) hz at h = cc
call_anywhere (Tick time) hz at h = cc

module _ (s : Script) (role : Role) (c : Cursor) (held : Held) (holds : c.hold ≡ Some held) where
  held_some : is_some c.hold ≡ false → ⊥
  held_some e = let h : is_some c.hold ≡ true = ap is_some holds in cc

  only_takes : (left : List Task) (h : Held) → OnlyMoves (takes c left h)
  only_takes left h = only_choice (is_some c.hold) (Asks c.act (Itself Holding)) (Take h (over c left (Some h))) (λ e. tt) (λ e. absurd (held_some e))

  only_begins : (left : List Task) → OnlyMoves (begins_next s role c left)
  only_begins [] = only_choice (is_some c.hold) (Silent (record c { left = []; hold = None; stage = Ready })) Nothing (λ e. tt) (λ e. absurd (held_some e))
  only_begins (Does (Now time) ∷ left) = tt
  only_begins (Does (Lock id) ∷ left) = only_takes left (record { id = id; exclusive = true })
  only_begins (Does (ReadLock id) ∷ left) = only_takes left (record { id = id; exclusive = false })
  only_begins (Does Unlock ∷ left) = only_choice (is_some c.hold) (Silent (over c left None)) (Asks c.act (Itself NotHolding)) (λ e. tt) (λ e. tt)
  only_begins (Does (Drain i) ∷ left) = only_choice (is_some c.hold) (Asks c.act (Itself HoldsLock)) (Asks c.act (Callout i (Call (DrainTry false)))) (λ e. tt) (λ e. absurd (held_some e))
  only_begins (Does (Tick time) ∷ left) = tt
  only_begins (Does act ∷ left) = only_covered s c.hold c.act (plain_op act s.hz (record { time = c.now; here = cpu_of s role; me = 0 })) refl
  only_begins (Soft j ∷ left) = tt

pub only_within : (s : Script) (role : Role) (c : Cursor) (v : InService) (acts : List Act) → HasActs (Firing v acts) → OnlyMoves (asks_within s (cpu_of s role) c v acts)
only_within s role c v [] h = absurd h
only_within s role c v (act ∷ acts) h = only_covered s c.hold c.act (plain_op act s.hz (record { time = v.at; here = cpu_of s role; me = v.i })) (call_anywhere act s.hz (record { time = v.at; here = cpu_of s role; me = v.i }) h.0)

-- a stage with a hold waits for a callout on its way at most, and for no Scan
pub record Stays (s : Script) (role : Role) (c : Cursor) (stage : Stage) : Type 0 where
  pub only : OnlyMoves (action_in s role c stage)
  pub no_wait : NoWait stage
  pub no_scans : scans_at c stage ≡ 0

client_scans : (s : Script) (k : ℕ) (left : List Task) → AllByRecursion (IsTaskOf s (Client k)) left → scans_of left ≡ 0
client_scans s k [] h = refl
client_scans s k (Does act ∷ left) h = refl
client_scans s k (Soft j ∷ left) h = absurd h.0

holder_stays : (s : Script) (role : Role) (c : Cursor) (stage : Stage) (held : Held) → HoldFits s role c.hold stage → HasActs stage → AllByRecursion (IsTaskOf s role) c.left → c.hold ≡ Some held → Stays s role c stage
holder_stays s (Client k) c Ready held fits acts tasks holds = record { only = only_begins s (Client k) c held holds c.left; no_wait = tt; no_scans = client_scans s k c.left tasks }
holder_stays s (Client k) c (Waiting n took) held fits acts tasks holds = cc
holder_stays s (Client k) c (Popping act) held fits acts tasks holds = absurd fits
holder_stays s (Client k) c (Picking v) held fits acts tasks holds = absurd fits
holder_stays s (Client k) c (Locking v) held fits acts tasks holds = absurd fits
holder_stays s (Client k) c (Beginning v) held fits acts tasks holds = absurd fits
holder_stays s (Client k) c (Unlocking v more) held fits acts tasks holds = absurd fits
holder_stays s (Client k) c (Firing v more) held fits acts tasks holds = absurd fits
holder_stays s (Client k) c (Releasing v) held fits acts tasks holds = absurd fits
holder_stays s (Client k) c (Ending v) held fits acts tasks holds = absurd fits
holder_stays s (Client k) c (Freeing v drain next) held fits acts tasks holds = absurd fits
holder_stays s (Client k) c (Drained v more) held fits acts tasks holds = absurd fits
holder_stays s role c (Beginning v) held fits acts tasks holds = record { only = tt; no_wait = tt; no_scans = refl }
holder_stays s role c (Unlocking v more) held fits acts tasks holds = record { only = tt; no_wait = tt; no_scans = refl }
holder_stays s role c (Firing v more) held fits acts tasks holds = record { only = only_within s role c v more acts; no_wait = tt; no_scans = refl }
holder_stays s role c (Releasing v) held fits acts tasks holds = record { only = tt; no_wait = tt; no_scans = refl }
holder_stays s role c (Waiting n took) held fits acts tasks holds = absurd fits
holder_stays s role c (Locking v) held fits acts tasks holds = (let none = fits.0 in cc)
holder_stays s role c Ready held fits acts tasks holds = cc
holder_stays s role c (Popping act) held fits acts tasks holds = cc
holder_stays s role c (Picking v) held fits acts tasks holds = cc
holder_stays s role c (Ending v) held fits acts tasks holds = cc
holder_stays s role c (Freeing v drain next) held fits acts tasks holds = cc
holder_stays s role c (Drained v more) held fits acts tasks holds = cc

-- the same with a callout that the actor is moving
pub record StaysWith (s : Script) (role : Role) (c : Cursor) (parcel : Option PendingInsert) : Type 0 where
  pub only : OnlyMoves (action_with s role c parcel)
  pub no_scans : scans_with c parcel ≡ 0

stays_with : (s : Script) (role : Role) (c : Cursor) (parcel : Option PendingInsert) → Stays s role c c.stage → StaysWith s role c parcel
stays_with s role c None h = record { only = h.only; no_scans = h.no_scans }
stays_with s role c (Some p) h = record { only = tt; no_scans = refl }

pub stays_waits : (s : Script) (w : World) (b : ℕ) → b < actor_count s → Stays s (role_of s b) (w.actors b).cursor (w.actors b).cursor.stage → Waits s w b
stays_waits s w b exists h =
    let c : Cursor = (w.actors b).cursor in
    let with_parcel : StaysWith s (role_of s b) c c.parcel = stays_with s (role_of s b) c c.parcel h in
    record { exists = exists; only = with_parcel.only; no_wait = h.no_wait; no_scans = with_parcel.no_scans }

holder_waits : (s : Script) (w : World) (b : ℕ) (held : Held) → IsSteady s w → b < actor_count s → (w.actors b).cursor.hold ≡ Some held → Waits s w b
holder_waits s w b held sound exists holds =
    stays_waits s w b exists (holder_stays s (role_of s b) (w.actors b).cursor (w.actors b).cursor.stage held (sound.good.holds.roles b).hold (sound.good.holds.roles b).acts (sound.good.holds.roles b).tasks holds)

some_held : (held : Held) (o : Option Held) → is_excluded_by held o ≡ true → (other : Held) × (o ≡ Some other)
some_held held None h = cc
some_held held (Some other) h = (other, refl)

-- where a lock is held its holder leads to a step
pub locked_steps : (s : Script) (w : World) (held : Held) → IsSteady s w → is_locked s w held ≡ true → Steps s w
locked_steps s w held sound h =
    let found : (a : ℕ) × (a < 0 + actor_count s) × (is_excluded_by held (w.actors a).cursor.hold ≡ true) = any_found (λ a. is_excluded_by held (w.actors a).cursor.hold) 0 (actor_count s) h in
    let other : (x : Held) × ((w.actors found.0).cursor.hold ≡ Some x) = some_held held (w.actors found.0).cursor.hold found.2 in
    waits_steps s w found.0 (holder_waits s w found.0 other.0 sound (let h = found.1 in omega arith) other.1)
