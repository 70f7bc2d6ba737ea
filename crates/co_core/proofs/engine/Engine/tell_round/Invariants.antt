use Rattle.std.proofs.Common.{◌≡◌, ℕ, ◌<◌, true}
use Rattle.std.specs.List.{range_with_len}
use Rattle.co_core.specs.Resting.{IsKnown}
use Rattle.co_core.specs.Acting.{Stands}
use Rattle.co_core.specs.Telling.{TellsOn}
use Rattle.co_world.specs.Walk.{run, HasFinished}
use Rattle.co_world.specs.World.{World as PlainWorld}
use Rattle.co_core.proofs.engine.Engine.tell_round.Given as goal

abbrev pub invariant-loop-actor : goal.invariant-loop-actor
invariant-loop-actor g l = record {
  world : (w : PlainWorld) × Stands l.script l.self w;
  told : (w : PlainWorld) → Stands l.script l.fn.self w → IsKnown l.script w l.fn.resting →
      TellsOn l.script g.N.Listener.has l.self l.fn.listener l.listener w (run l.script w (range_with_len 0 l.actor)) × IsKnown l.script (run l.script w (range_with_len 0 l.actor)) l.resting;
  finished : l.finished ≡ true → (w : PlainWorld) → Stands l.script l.fn.self w → IsKnown l.script w l.fn.resting →
      ((a : ℕ) → a < l.actor → HasFinished l.script w a) × (run l.script w (range_with_len 0 l.actor) ≡ w);
  actors : g.N.Listener.actors l.listener ≡ g.N.Listener.actors l.fn.listener;
}
