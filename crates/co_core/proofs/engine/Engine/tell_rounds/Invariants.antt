use Rattle.std.proofs.Common.{◌≡◌}
use Rattle.co_program.specs.Scripts.{IsScript}
use Rattle.co_core.specs.Resting.{IsKnown}
use Rattle.co_core.specs.Acting.{Stands}
use Rattle.co_core.specs.Telling.{TellsOn}
use Rattle.co_world.specs.Walk.{rounds}
use Rattle.co_world.specs.World.{World as PlainWorld}
use Rattle.co_world.proofs.measure.Rounds.{HasCounted}
use Rattle.co_core.proofs.engine.Engine.tell_rounds.Given as goal

abbrev pub invariant-loop-round : goal.invariant-loop-round
invariant-loop-round g l = record {
  world : (w : PlainWorld) × Stands l.script l.self w;
  told : (w : PlainWorld) → Stands l.script l.fn.self w → IsKnown l.script w l.fn.resting →
      TellsOn l.script g.N.Listener.has l.self l.fn.listener l.listener w (rounds l.script w l._round) × IsKnown l.script (rounds l.script w l._round) l.resting
      × ((ok : IsScript l.script) → HasCounted l.script ok w l._round);
  actors : g.N.Listener.actors l.listener ≡ g.N.Listener.actors l.fn.listener;
}
