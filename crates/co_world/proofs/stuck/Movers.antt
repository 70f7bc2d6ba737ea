-- Whoever waits for a callout on its way at most leads to a step: its mover, or its own.
use Rattle.std.proofs.Common.{◌≡◌, ℕ, ◌+◌, ◌<◌, Bool, true, false, cond, refl, ap, subst, arith, ◌⊎◌, inl, inr, Option, Some, None, le-ltb}
use Rattle.std.specs.Prelude.{⊤, nat_lt}
use Rattle.co_object.specs.declared.Op.TheVariants.{Call, Run}
use Rattle.co_object.specs.declared.CallOp.TheVariants.{Plain, DrainTry}
use Rattle.co_program.specs.declared.Script.{Script}
use Rattle.co_program.specs.Actors.{role_of, actor_count}
use Rattle.co_program.specs.declared.Role.{Role}
use Rattle.co_program.specs.Stages.{Stage, Ready, Waiting, Popping, Picking, Locking, Beginning, Unlocking, Firing, Releasing, Ending, Freeing, Drained}
use Rattle.co_program.specs.Cursor.{Cursor}
use Rattle.co_program.specs.declared.PendingInsert.{PendingInsert}
use Rattle.co_program.specs.Action.{Action, Nothing, Silent, Take, Asks, action_for, action_with, scans_first, scans_with}
use Rattle.co_program.specs.declared.Asked.TheVariants.{Callout, Queue, Itself}
use Rattle.co_program.specs.Follows.{scan_count}
use Rattle.co_world.specs.declared.turn.Why.{Why}
use Rattle.co_world.specs.declared.turn.Why.TheVariants as why
use Rattle.co_world.specs.World.{World}
use Rattle.co_world.specs.Blocked.{moves, is_moving, is_waiting, waits_for, blocked}
use Rattle.co_world.specs.Walk.{HasFinished}
use Rattle.co_world.proofs.basics.Updates.{at_choice}
use Rattle.co_world.proofs.basics.Ranges.{any_found}

-- ---- what a step may wait for

-- an actor that has not finished, and waits for nothing
pub record Steps (s : Script) (w : World) : Type 0 where
  pub actor : ℕ
  pub exists : actor < actor_count s
  pub unfinished : HasFinished s w actor → ⊥
  pub free : blocked s w actor ≡ None

-- what waits for a callout on its way at most
abbrev pub OnlyMoves : Action → Type 0
OnlyMoves Nothing = ⊥
OnlyMoves (Silent to) = ⊤
OnlyMoves (Take held to) = ⊥
OnlyMoves (Asks act (Callout i (Call (Plain op)))) = ⊤
OnlyMoves (Asks act (Callout i (Call (DrainTry took)))) = ⊥
OnlyMoves (Asks act (Callout i (Run op))) = ⊤
OnlyMoves (Asks act (Queue cpu op)) = ⊤
OnlyMoves (Asks act (Itself kind)) = ⊤

pub only_choice : (b : Bool) (x y : Action) → (b ≡ true → OnlyMoves x) → (b ≡ false → OnlyMoves y) → OnlyMoves (cond b x y)
only_choice b x y = at_choice OnlyMoves b x y

-- a stage in which no drain waits
abbrev pub NoWait : Stage → Type 0
NoWait (Waiting n took) = ⊥
NoWait stage = ⊤

not_waiting : (w : World) (i : ℕ) (stage : Stage) → NoWait stage → is_waiting w i stage ≡ false
not_waiting w i (Waiting n took) h = absurd h
not_waiting w i Ready h = refl
not_waiting w i (Popping act) h = refl
not_waiting w i (Picking v) h = refl
not_waiting w i (Locking v) h = refl
not_waiting w i (Beginning v) h = refl
not_waiting w i (Unlocking v acts) h = refl
not_waiting w i (Firing v acts) h = refl
not_waiting w i (Releasing v) h = refl
not_waiting w i (Ending v) h = refl
not_waiting w i (Freeing v drain next) h = refl
not_waiting w i (Drained v acts) h = refl

-- nothing is waited for, or a callout on its way
abbrev NoneOrMoving : Script → World → Option Why → Type 0
NoneOrMoving s w o = (o ≡ None) ⊎ ((i : ℕ) × (is_moving s w i ≡ true))

call_waits : (s : Script) (w : World) (i : ℕ) (moving waiting : Bool) → is_moving s w i ≡ moving → waiting ≡ false →
    NoneOrMoving s w (cond moving (Some (why.Moving i)) (cond waiting (Some (why.Serviced i)) None))
call_waits s w i true waiting is h = inr (i, is)
call_waits s w i false waiting is h = inl (ap (λ b. cond b (Some (why.Serviced i)) None) h)

no_scan_waits : (m n : ℕ) (cpu : ℕ) → n ≡ 0 → cond (nat_lt m n) (Some (why.Tick cpu)) None ≡ None
no_scan_waits m n cpu zero_scans = ap (λ b. cond b (Some (why.Tick cpu)) None) (le-ltb m n (omega arith))

only_waits : (s : Script) (w : World) (c : Cursor) (due : Action) → OnlyMoves due → NoWait c.stage → scans_first c ≡ 0 → NoneOrMoving s w (waits_for s w c due)
only_waits s w c Nothing h no_wait no_scans = absurd h
only_waits s w c (Silent to) h no_wait no_scans = inl refl
only_waits s w c (Take held to) h no_wait no_scans = absurd h
only_waits s w c (Asks act (Callout i (Call (Plain op)))) h no_wait no_scans = call_waits s w i (is_moving s w i) (is_waiting w i c.stage) refl (not_waiting w i c.stage no_wait)
only_waits s w c (Asks act (Callout i (Call (DrainTry took)))) h no_wait no_scans = absurd h
only_waits s w c (Asks act (Callout i (Run op))) h no_wait no_scans = inl refl
only_waits s w c (Asks act (Queue cpu op)) h no_wait no_scans = inl (no_scan_waits (scan_count (w.cpus cpu).journal) (scans_first c) cpu no_scans)
only_waits s w c (Asks act (Itself kind)) h no_wait no_scans = inl refl

only_unfinished : (due : Action) → OnlyMoves due → due ≡ Nothing → ⊥
only_unfinished due h is = subst OnlyMoves is h

parcel_moves : (role : Role) (s : Script) (c : Cursor) (parcel : Option PendingInsert) (i : ℕ) → moves i parcel ≡ true → OnlyMoves (action_with s role c parcel) × (scans_with c parcel ≡ 0) × (c.parcel ≡ parcel → (o : Option Why) → o ≡ o)
parcel_moves role s c None i h = cc
parcel_moves role s c (Some p) i h = (tt, refl, λ e o. refl)

parcel_free : (s : Script) (w : World) (role : Role) (c : Cursor) (parcel : Option PendingInsert) (i : ℕ) → scans_first c ≡ scans_with c parcel → moves i parcel ≡ true → waits_for s w c (action_with s role c parcel) ≡ None
parcel_free s w role c None i same h = cc
parcel_free s w role c (Some p) i same h = no_scan_waits (scan_count (w.cpus p.cpu).journal) (scans_first c) p.cpu same

-- a mover steps
pub mover_steps : (s : Script) (w : World) (i : ℕ) → is_moving s w i ≡ true → Steps s w
mover_steps s w i h =
    let found : (a : ℕ) × (a < 0 + actor_count s) × (moves i (w.actors a).cursor.parcel ≡ true) = any_found (λ a. moves i (w.actors a).cursor.parcel) 0 (actor_count s) h in
    let c : Cursor = (w.actors found.0).cursor in
    record {
      actor = found.0;
      exists = (let h = found.1 in omega arith);
      unfinished = only_unfinished (action_for s found.0 c) (parcel_moves (role_of s found.0) s c c.parcel i found.2).0;
      free = parcel_free s w (role_of s found.0) c c.parcel i refl found.2;
    }

-- ---- whoever waits for a callout on its way at most

pub record Waits (s : Script) (w : World) (b : ℕ) : Type 0 where
  pub exists : b < actor_count s
  pub only : OnlyMoves (action_for s b (w.actors b).cursor)
  pub no_wait : NoWait (w.actors b).cursor.stage
  pub no_scans : scans_first (w.actors b).cursor ≡ 0

pub waits_steps : (s : Script) (w : World) (b : ℕ) → Waits s w b → Steps s w
waits_steps s w b h =
    elim (only_waits s w (w.actors b).cursor (action_for s b (w.actors b).cursor) h.only h.no_wait h.no_scans) [
      | inl free ↦ record { actor = b; exists = h.exists; unfinished = only_unfinished (action_for s b (w.actors b).cursor) h.only; free = free }
      | inr moving ↦ mover_steps s w moving.0 moving.1
    ]
