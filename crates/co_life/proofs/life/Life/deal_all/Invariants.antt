-- Each actor so far has its fresh pass.
use Rattle.std.proofs.Common.{◌≡◌, []}
use Rattle.co_life.specs.Views.{AreFresh}
use Rattle.co_life.proofs.life.Life.deal_all.Given as goal

abbrev pub invariant-loop-actor : goal.invariant-loop-actor
invariant-loop-actor g l = (l.keeper.life ≡ l.self) × (l.keeper.history ≡ []) × (l.keeper.actors ≡ l._actor) × AreFresh l.self l._actor l.passes
