use Rattle.std.proofs.Common.{◌≡◌, take}
use Rattle.co_core.specs.Resting.{IsKnown}
use Rattle.co_core.specs.Acting.{Stands}
use Rattle.co_core.specs.Telling.{TellsOn}
use Rattle.co_world.specs.Walk.{run}
use Rattle.co_world.specs.World.{World as PlainWorld}
use Rattle.co_core.proofs.engine.Engine.tell_turns.Given as goal

abbrev pub invariant-loop-actor : goal.invariant-loop-actor
invariant-loop-actor g l = record {
  world : (w : PlainWorld) × Stands l.script l.self w;
  told : (w : PlainWorld) → Stands l.script l.fn.self w → IsKnown l.script w l.fn.resting →
      TellsOn l.script g.N.Listener.has l.self l.fn.listener l.listener w (run l.script w (take l.actor-index l.actor-items)) × IsKnown l.script (run l.script w (take l.actor-index l.actor-items)) l.resting;
  actors : g.N.Listener.actors l.listener ≡ g.N.Listener.actors l.fn.listener;
}
