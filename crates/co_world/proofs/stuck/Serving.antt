-- A service under way leads to a step.
use Rattle.std.proofs.Common.{◌≡◌, ℕ, ◌<◌, Bool, true, false, cond, refl, sym, ap, subst, ◌∙◌, ◌⊎◌, inl, inr, Option, Some, None}
use Rattle.co_lock.specs.declared.Held.{Held}
use Rattle.co_lock.specs.Service.{hold_of}
use Rattle.co_program.specs.declared.Script.{Script}
use Rattle.co_program.specs.Actors.{role_of, actor_count}
use Rattle.co_program.specs.declared.Role.{Role}
use Rattle.co_program.specs.declared.Role.TheVariants.{Client}
use Rattle.co_program.specs.Stages.{Stage, Ready, Waiting, Popping, Picking, Locking, Beginning, Unlocking, Firing, Releasing, Ending, Freeing, Drained}
use Rattle.co_program.specs.declared.InService.{InService}
use Rattle.co_program.specs.Cursor.{Cursor}
use Rattle.co_program.specs.declared.PendingInsert.{PendingInsert}
use Rattle.co_program.specs.Action.{Nothing, Take, action_for, action_with, action_in, spec_at, scans_with, locks}
use Rattle.co_world.specs.declared.turn.Why.TheVariants as why
use Rattle.co_world.specs.World.{World}
use Rattle.co_world.specs.Blocked.{is_locked, is_waiting, waits_for}
use Rattle.co_world.proofs.kept.Invariant.{HoldFits, HasActs, service_of, cpu_of_run}
use Rattle.co_world.proofs.kept.BySteps.{IsSteady}
use Rattle.co_object.specs.declared.Run.{Run as RunState}
use Rattle.co_object.specs.declared.Run.TheVariants as run
use Rattle.co_object.specs.Drain.{serviced}
use Rattle.co_object.specs.History.{server}
use Rattle.co_world.specs.Laws.{actors_of}
use Rattle.co_world.specs.Blocked.{is_service_of}
use Rattle.co_world.proofs.stuck.Movers.{Steps, OnlyMoves, NoWait, waits_steps}
use Rattle.co_world.proofs.stuck.Holders.{only_within, Stays, stays_waits, locked_steps}

-- an actor that is about to take a lock steps, or the lock's holder leads to a step
pub take_steps : (s : Script) (w : World) (b : ℕ) (held : Held) (to : Cursor) → IsSteady s w → b < actor_count s → action_for s b (w.actors b).cursor ≡ Take held to → Steps s w
take_steps s w b held to sound exists is = go (is_locked s w held) refl
  where
    go : (locked : Bool) → is_locked s w held ≡ locked → Steps s w
    go true h = locked_steps s w held sound h
    go false h = record {
      actor = b;
      exists = exists;
      unfinished = λ e. (let h : Take held to ≡ Nothing = sym is ∙ e in cc);
      free = ap (waits_for s w (w.actors b).cursor) is ∙ ap (λ (l : Bool). cond l (Some (why.Lock held.id)) None) h;
    }

pub locking_takes : (s : Script) (c : Cursor) (v : InService) (hold : Option Held) (held : Held) → hold ≡ Some held → locks s c v hold ≡ Take held (record c { hold = Some held; stage = Beginning v })
locking_takes s c v hold held is = ap (locks s c v) is

-- a service that is about to take its lock, or one that waits for a callout on its way at most
serving_stage : (s : Script) (role : Role) (c : Cursor) (stage : Stage) (v : InService) → service_of stage ≡ Some v → HoldFits s role c.hold stage → HasActs stage →
    Stays s role c stage ⊎ ((held : Held) × (to : Cursor) × (action_in s role c stage ≡ Take held to))
serving_stage s (Client k) c Ready v is fits acts = cc
serving_stage s (Client k) c (Waiting n took) v is fits acts = cc
serving_stage s (Client k) c (Popping act) v is fits acts = absurd fits
serving_stage s (Client k) c (Picking x) v is fits acts = absurd fits
serving_stage s (Client k) c (Locking x) v is fits acts = absurd fits
serving_stage s (Client k) c (Beginning x) v is fits acts = absurd fits
serving_stage s (Client k) c (Unlocking x more) v is fits acts = absurd fits
serving_stage s (Client k) c (Firing x more) v is fits acts = absurd fits
serving_stage s (Client k) c (Releasing x) v is fits acts = absurd fits
serving_stage s (Client k) c (Ending x) v is fits acts = absurd fits
serving_stage s (Client k) c (Freeing x drain next) v is fits acts = absurd fits
serving_stage s (Client k) c (Drained x more) v is fits acts = absurd fits
serving_stage s role c (Locking x) v is fits acts = inr (fits.1.0, record c { hold = Some fits.1.0; stage = Beginning x }, locking_takes s c x (hold_of (spec_at s x.i).lock) fits.1.0 fits.1.1)
serving_stage s role c (Beginning x) v is fits acts = inl (record { only = tt; no_wait = tt; no_scans = refl })
serving_stage s role c (Unlocking x more) v is fits acts = inl (record { only = tt; no_wait = tt; no_scans = refl })
serving_stage s role c (Firing x more) v is fits acts = inl (record { only = only_within s role c x more acts; no_wait = tt; no_scans = refl })
serving_stage s role c (Releasing x) v is fits acts = inl (record { only = tt; no_wait = tt; no_scans = refl })
serving_stage s role c (Ending x) v is fits acts = inl (record { only = tt; no_wait = tt; no_scans = refl })
serving_stage s role c Ready v is fits acts = cc
serving_stage s role c (Waiting n took) v is fits acts = cc
serving_stage s role c (Popping act) v is fits acts = cc
serving_stage s role c (Picking x) v is fits acts = cc
serving_stage s role c (Freeing x drain next) v is fits acts = cc
serving_stage s role c (Drained x more) v is fits acts = cc

serving_no_wait : (stage : Stage) (v : InService) → service_of stage ≡ Some v → NoWait stage
serving_no_wait (Waiting n took) v is = cc
serving_no_wait Ready v is = tt
serving_no_wait (Popping act) v is = tt
serving_no_wait (Picking x) v is = tt
serving_no_wait (Locking x) v is = tt
serving_no_wait (Beginning x) v is = tt
serving_no_wait (Unlocking x acts) v is = tt
serving_no_wait (Firing x acts) v is = tt
serving_no_wait (Releasing x) v is = tt
serving_no_wait (Ending x) v is = tt
serving_no_wait (Freeing x drain next) v is = tt
serving_no_wait (Drained x acts) v is = tt

-- an actor whose stage waits for a lock or for a callout on its way at most leads to a step
pub stage_steps : (s : Script) (w : World) (b : ℕ) → IsSteady s w → b < actor_count s → NoWait (w.actors b).cursor.stage →
    (Stays s (role_of s b) (w.actors b).cursor (w.actors b).cursor.stage ⊎ ((held : Held) × (to : Cursor) × (action_in s (role_of s b) (w.actors b).cursor (w.actors b).cursor.stage ≡ Take held to))) → Steps s w
stage_steps s w b sound exists no_wait (inl stays) = waits_steps s w b (stays_waits s w b exists stays)
stage_steps s w b sound exists no_wait (inr take) = go (w.actors b).cursor.parcel refl
  where
    go : (parcel : Option PendingInsert) → (w.actors b).cursor.parcel ≡ parcel → Steps s w
    go None e = take_steps s w b take.0 take.1 sound exists (ap (action_with s (role_of s b) (w.actors b).cursor) e ∙ take.2)
    go (Some p) e = waits_steps s w b (record {
      exists = exists;
      only = subst (λ (o : Option PendingInsert). OnlyMoves (action_with s (role_of s b) (w.actors b).cursor o)) (sym e) tt;
      no_wait = no_wait;
      no_scans = ap (scans_with (w.actors b).cursor) e;
    })

serving_steps : (s : Script) (w : World) (i cpu : ℕ) → IsSteady s w → cpu_of_run (w.timers i).state.run ≡ Some cpu → Steps s w
serving_steps s w i cpu sound h =
    let b : ℕ = server (actors_of s) (spec_at s i) cpu in
    let served = sound.good.holds.serving.served i cpu h in
    stage_steps s w b sound served.3 (serving_no_wait (w.actors b).cursor.stage served.0 served.1)
    (serving_stage s (role_of s b) (w.actors b).cursor (w.actors b).cursor.stage served.0 served.1 (sound.good.holds.roles b).hold (sound.good.holds.roles b).acts)

run_cpu : (r : RunState) (n : ℕ) → is_service_of n (serviced r) ≡ true → (cpu : ℕ) × (cpu_of_run r ≡ Some cpu)
run_cpu run.Idle n h = cc
run_cpu (run.Picked a) n h = (a.cpu, refl)
run_cpu (run.Cancelled m cpu) n h = (cpu, refl)
run_cpu (run.Running m cpu) n h = (cpu, refl)

pub waiting_steps : (s : Script) (w : World) (i : ℕ) (stage : Stage) → IsSteady s w → is_waiting w i stage ≡ true → Steps s w
waiting_steps s w i (Waiting n took) sound h = let at : (cpu : ℕ) × (cpu_of_run (w.timers i).state.run ≡ Some cpu) = run_cpu (w.timers i).state.run n h in serving_steps s w i at.0 sound at.1
waiting_steps s w i Ready sound h = cc
waiting_steps s w i (Popping act) sound h = cc
waiting_steps s w i (Picking v) sound h = cc
waiting_steps s w i (Locking v) sound h = cc
waiting_steps s w i (Beginning v) sound h = cc
waiting_steps s w i (Unlocking v acts) sound h = cc
waiting_steps s w i (Firing v acts) sound h = cc
waiting_steps s w i (Releasing v) sound h = cc
waiting_steps s w i (Ending v) sound h = cc
waiting_steps s w i (Freeing v drain next) sound h = cc
waiting_steps s w i (Drained v acts) sound h = cc
