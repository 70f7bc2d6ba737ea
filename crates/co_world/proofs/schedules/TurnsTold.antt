-- What the answer of a step tells.
use Rattle.std.proofs.Common.{◌≡◌, ℕ, ◌-◌, length, refl, sym, ap, Option, Some, None}
use Rattle.co_program.specs.declared.Script.{Script}
use Rattle.co_program.specs.Action.{Action, Nothing, Silent, Take, Asks, action_for}
use Rattle.co_world.specs.declared.turn.Turn.TheVariants.{Notes, Blocked, Finished}
use Rattle.co_world.specs.declared.turn.Why.{Why}
use Rattle.co_world.specs.Blocked.{blocked, waits_for}
use Rattle.co_world.specs.Laws.{TurnTells, TurnsTell}
use Rattle.co_world.specs.Step.{step, turn_at, turn_of}
use Rattle.co_world.specs.Walk.{HasFinished}
use Rattle.co_world.specs.World.{World}
use Rattle.co_world.proofs.measure.Rounds.{turn-finished}

module _ (s : Script) (w : World) (a : ℕ) where
  abbrev made : ℕ
  made = length ((step s w a).actors a).notes - length (w.actors a).notes

  waits_to : (o : Option Why) (action : Action) (why : Why) → turn_at s w a o action ≡ Blocked why → o ≡ Some why
  waits_to (Some other) action why h = ap Some (let e : other ≡ why = cc in e)
  waits_to None Nothing why h = cc
  waits_to None (Silent to) why h = cc
  waits_to None (Take held to) why h = cc
  waits_to None (Asks act asked) why h = cc

  waits_from : (action : Action) (o : Option Why) (why : Why) → o ≡ Some why → turn_at s w a o action ≡ Blocked why
  waits_from action o why h = ap (λ (p : Option Why). turn_at s w a p action) h

  counts : (o : Option Why) (action : Action) (n : ℕ) → turn_at s w a o action ≡ Notes n → (o ≡ None) × (n ≡ made)
  counts (Some why) action n h = cc
  counts None Nothing n h = cc
  counts None (Silent to) n h = (refl, (let e : made ≡ n = cc in sym e))
  counts None (Take held to) n h = (refl, (let e : made ≡ n = cc in sym e))
  counts None (Asks act asked) n h = (refl, (let e : made ≡ n = cc in sym e))

  -- nothing that has ended waits
  ended_from : HasFinished s w a → turn_of s w a ≡ Finished
  ended_from h = ap (λ (action : Action). turn_at s w a (waits_for s w (w.actors a).cursor action) action) h

  tells : TurnTells s w a
  tells = record {
    waits = λ why. (waits_to (blocked s w a) (action_for s a (w.actors a).cursor) why, waits_from (action_for s a (w.actors a).cursor) (blocked s w a) why);
    ended = (turn-finished s w a, ended_from);
    counts = counts (blocked s w a) (action_for s a (w.actors a).cursor);
  }

pub turns_tell : TurnsTell
turns_tell s w a = tells s w a
