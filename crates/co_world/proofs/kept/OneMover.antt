-- What holds of every world that stands for: it is steady, and only one actor moves a callout.
use Rattle.std.proofs.Common.{◌≡◌, ℕ, ◌<◌, Bool, true, false, refl, sym, ap, subst, eqb-true, Option, Some, None}
use Rattle.co_program.specs.declared.cursor.PendingInsert.{PendingInsert}
use Rattle.co_program.specs.declared.script.Script.{Script}
use Rattle.co_program.specs.Actors.{actor_count, cpu_of, role_of}
use Rattle.co_program.specs.Cursor.{Cursor}
use Rattle.co_program.specs.Scripts.{IsScript}
use Rattle.co_world.specs.World.{World}
use Rattle.co_world.specs.Blocked.{moves}
use Rattle.co_world.specs.Laws.{IsReached}
use Rattle.co_world.proofs.kept.Invariant.{carries, in_hand, cursors_of}
use Rattle.co_world.proofs.sections.Movers.{parcels_of}
use Rattle.co_world.proofs.kept.BySchedules.{reached_steady}
use Rattle.co_world.proofs.kept.BySteps.{IsSteady}

pub steady_of : (s : Script) → IsScript s → (w : World) → IsReached s w → IsSteady s w
steady_of s ok w h = subst (IsSteady s) (sym h.world) (reached_steady s ok h.schedule h.may)

-- what moves a callout has it on its way
pub mover_of : (i : ℕ) (parcel : Option PendingInsert) → moves i parcel ≡ true → (p : PendingInsert) × (parcel ≡ Some p) × (p.i ≡ i)
mover_of i None is = cc
mover_of i (Some p) is = (p, refl, eqb-true p.i i is)

pub carried_by : (s : Script) (b : ℕ) (c : Cursor) (p : PendingInsert) → c.parcel ≡ Some p → carries s b c ≡ Some p
carried_by s b c p is = ap (λ (o : Option PendingInsert). in_hand (cpu_of s (role_of s b)) o c.stage) is

-- a callout that an actor moves is moved by no other
pub moved_once : (s : Script) (w : World) → IsSteady s w → (a : ℕ) (p : PendingInsert) → parcels_of w a ≡ Some p → (b : ℕ) → (b ≡ a → ⊥) → b < actor_count s → moves p.i (parcels_of w b) ≡ false
moved_once s w steady a p is b other within = go (moves p.i (parcels_of w b)) refl where
  go : (m : Bool) → moves p.i (parcels_of w b) ≡ m → m ≡ false
  go true moving =
      let other_mover = mover_of p.i (parcels_of w b) moving in
      absurd (other (steady.good.holds.carried.once b a other_mover.0 p (carried_by s b (cursors_of w b) other_mover.0 other_mover.1) (carried_by s a (cursors_of w a) p is) other_mover.2))
  go false moving = refl
