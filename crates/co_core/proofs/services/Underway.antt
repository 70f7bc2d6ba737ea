-- A service under way: when its Begin and its End are due, and where its callout's record is.
use Rattle.std.proofs.Common.{◌≡◌, ℕ, ◌<◌, Bool, true, false, cond, not, length, refl, sym, ap, ◌∙◌, subst, arith, Option, Some, None, eqb-true}
use Rattle.std.specs.Prelude.{◌==◌, ◌&&◌}
use Rattle.co_object.specs.declared.Op.TheVariants.{Run as Serve}
use Rattle.co_object.specs.declared.RunOp.TheVariants.{Begin, End}
use Rattle.co_object.specs.declared.Run.{Run}
use Rattle.co_object.specs.declared.Run.TheVariants.{Idle, Picked, Cancelled, Running}
use Rattle.co_object.specs.Stand.{is_idle, is_free_at}
use Rattle.co_lock.specs.declared.held.Held.{Held}
use Rattle.co_lock.specs.Service.{hold_of}
use Rattle.co_program.specs.declared.role.Role.{Role}
use Rattle.co_program.specs.declared.role.Role.TheVariants.{Client, Cpu, Interrupt}
use Rattle.co_program.specs.declared.cursor.PendingInsert.{PendingInsert}
use Rattle.co_program.specs.declared.cursor.InService.{InService}
use Rattle.co_program.specs.declared.action.Asked.TheVariants.{Callout}
use Rattle.co_program.specs.declared.script.Script.{Script}
use Rattle.co_program.specs.Actors.{actor_count, role_of, cpu_of}
use Rattle.co_program.specs.Stages.{Stage, Beginning, Ending}
use Rattle.co_program.specs.Cursor.{Cursor}
use Rattle.co_program.specs.Action.{Asks, spec_at}
use Rattle.co_program.specs.Scripts.{IsScript}
use Rattle.co_wheel.specs.Callouts.{callout}
use Rattle.co_world.specs.World.{World}
use Rattle.co_world.specs.Blocked.{is_moving, moves}
use Rattle.co_core.specs.Stored.{Stored, wheel_at}
use Rattle.co_core.specs.Written.{Written}
use Rattle.co_world.specs.Placed.{stage_callout}
use Rattle.co_core.specs.Stands.{StandsFor, alone_in, at_home}
use Rattle.co_world.proofs.basics.Actions.{IsAction, IsActionWith, goes_by, opens, ends}
use Rattle.co_core.proofs.calls.Wheels.{at_wheel}
use Rattle.co_world.proofs.kept.Invariant.{IsTaken, IsOver, LaneFits, HoldFits, cursors_of, states_of}
use Rattle.co_world.proofs.sections.Movers.{parcels_of, moving_none, mover}
use Rattle.co_world.proofs.names.Calls.{role_cpu}
use Rattle.co_world.proofs.basics.Roles.{is_direct_at}
use Rattle.co_world.proofs.kept.OneMover.{mover_of}
use Rattle.co_world.proofs.sections.Ways.{stands_of}

-- ---- when it is due

-- this stage, of the service that the operation names
pub record IsStage (s : Script) (role : Role) (c : Cursor) (act i n cpu : ℕ) (of : InService → Stage) : Type 0 where
  pub at : ℕ
  pub stage : c.stage ≡ of (record { act = act; i = i; n = n; at = at })
  pub empty : c.parcel ≡ None
  pub is_cpu : cpu ≡ cpu_of s role

begin_stage : (s : Script) (role : Role) (c : Cursor) (stage : Stage) (act i n cpu : ℕ) → IsAction s role c stage (Asks act (Callout i (Serve (Begin n cpu)))) → c.stage ≡ stage → c.parcel ≡ None → IsStage s role c act i n cpu Beginning
begin_stage s role c stage act i n cpu (opens v) e empty = record { at = v.at; stage = e; empty = empty; is_cpu = refl }

pub begin_view : (s : Script) (role : Role) (c : Cursor) (parcel : Option PendingInsert) (act i n cpu : ℕ) → IsActionWith s role c parcel (Asks act (Callout i (Serve (Begin n cpu)))) → c.parcel ≡ parcel → IsStage s role c act i n cpu Beginning
begin_view s role c parcel act i n cpu (goes_by action view) e = begin_stage s role c c.stage act i n cpu view refl e

end_stage : (s : Script) (role : Role) (c : Cursor) (stage : Stage) (act i n cpu : ℕ) → IsAction s role c stage (Asks act (Callout i (Serve (End n cpu)))) → c.stage ≡ stage → c.parcel ≡ None → IsStage s role c act i n cpu Ending
end_stage s role c stage act i n cpu (ends v) e empty = record { at = v.at; stage = e; empty = empty; is_cpu = refl }

pub end_view : (s : Script) (role : Role) (c : Cursor) (parcel : Option PendingInsert) (act i n cpu : ℕ) → IsActionWith s role c parcel (Asks act (Callout i (Serve (End n cpu)))) → c.parcel ≡ parcel → IsStage s role c act i n cpu Ending
end_view s role c parcel act i n cpu (goes_by action view) e = end_stage s role c c.stage act i n cpu view refl e

-- a lock is taken for a callout of a CPU alone: none of an interrupt's has one
module _ (s : Script) (ok : IsScript s) where
  no_lock : (i : ℕ) (held : Held) → (spec_at s i).direct ≡ true → hold_of (spec_at s i).lock ≡ Some held → ⊥
  no_lock i held direct is = let none : None ≡ Some held = ap hold_of (sym (ok.direct i direct)) ∙ is in cc

  pub beginning_cpu : (role : Role) (hold : Option Held) (v : InService) → HoldFits s role hold (Beginning v) → LaneFits s role (Beginning v) → role ≡ Cpu (cpu_of s role)
  beginning_cpu (Client k) hold v fits lane = absurd fits
  beginning_cpu (Cpu x) hold v fits lane = refl
  beginning_cpu (Interrupt x) hold v fits lane = absurd (no_lock v.i fits.0 (sym (is_direct_at s v.i) ∙ lane) fits.2)

-- ---- where its callout's record is

-- a service of this CPU alone has the callout
pub record IsBusyAt (r : Run) (cpu : ℕ) : Type 0 where
  pub busy : is_idle r ≡ false
  pub only : (x : ℕ) → is_free_at r x ≡ true → x ≡ cpu

pub taken_busy : (r : Run) (n cpu : ℕ) → IsTaken r n cpu → IsBusyAt r cpu
taken_busy Idle n cpu h = absurd h
taken_busy (Picked a) n cpu h = record { busy = refl; only = λ x e. sym (eqb-true a.cpu x e) ∙ h.1 }
taken_busy (Cancelled m at) n cpu h = record { busy = refl; only = λ x e. sym (eqb-true at x e) ∙ h.1 }
taken_busy (Running m at) n cpu h = absurd h

pub over_busy : (r : Run) (n cpu : ℕ) → IsOver r n cpu → IsBusyAt r cpu
over_busy Idle n cpu h = absurd h
over_busy (Picked a) n cpu h = absurd h
over_busy (Cancelled m at) n cpu h = record { busy = refl; only = λ x e. sym (eqb-true at x e) ∙ h.1 }
over_busy (Running m at) n cpu h = record { busy = refl; only = λ x e. sym (eqb-true at x e) ∙ h.1 }

module _ (s : Script) (ok : IsScript s) (ledger : Written) (depot : Stored) (w : World) (stands : StandsFor s ledger depot w) (a i cpu : ℕ) (may : a < actor_count s)
    (is_cpu : cpu ≡ cpu_of s (role_of s a)) (about : stage_callout (cursors_of w a).stage ≡ Some i) (busy : IsBusyAt (states_of w i).run cpu) where
  pub cpu_below : cpu < s.cpus
  cpu_below = subst (λ (y : ℕ). y < s.cpus) (sym is_cpu) (role_cpu s ok a may)

  pub cpu_there : cpu < length depot.wheels
  cpu_there = let l = stands.stored.wheels_long in let b = cpu_below in omega (arith, l, b)

  pub known : i < length s.timers
  known = stands.placed.known a i may about

  pub stand : stands_of w i ≡ cpu
  stand = busy.only (stands_of w i) (stands.placed.runs i)

  -- nothing moves a callout in service
  pub still : is_moving s w i ≡ false
  still = go (is_moving s w i) refl where
    go : (b : Bool) → is_moving s w i ≡ b → b ≡ false
    go true is =
        let by = mover s w i is in
        let p = mover_of i (parcels_of w by.0) by.2 in
        let idle : is_idle (states_of w i).run ≡ true = subst (λ (j : ℕ). is_idle (states_of w j).run ≡ true) p.2 (stands.placed.bound by.0 p.0 by.1 p.1).idle in
        let clash : true ≡ false = sym idle ∙ busy.busy in cc
    go false is = refl

  pub there : callout (wheel_at depot cpu).callouts i ≡ Some (alone_in s w i)
  there = at_wheel s depot w stands.stored i cpu known cpu_below stand still

  pub others : (b : ℕ) → (b ≡ a → ⊥) → b < actor_count s → moves i (parcels_of w b) ≡ false
  others b other below = moving_none s w i b below still

  pub elsewhere : (y : ℕ) → (y ≡ cpu → ⊥) → at_home s w y i ≡ None
  elsewhere y other = go (stands_of w i == y) refl where
    go : (x : Bool) → (stands_of w i == y) ≡ x → cond (x && not (is_moving s w i)) (Some (alone_in s w i)) None ≡ None
    go true e = absurd (other (sym (eqb-true (stands_of w i) y e) ∙ stand))
    go false e = refl
