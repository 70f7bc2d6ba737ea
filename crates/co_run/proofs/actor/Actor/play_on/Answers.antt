-- A step leaves the actor between two steps.
use Rattle.std.proofs.Common.{refl, ◌∙◌}
use Rattle.co_run.proofs.actor.Actor.play_on.Goals as goal

pub loop-init : goal.loop-init
loop-init g c = (tt, tt, c.requires.ready, refl)

pub loop-preserved : goal.loop-preserved
loop-preserved g c = (tt, tt, c.step.ensures.tried.gone_on.ready, c.step.ensures.tried.gone_on.number ∙ c.loop.invariant.3)
