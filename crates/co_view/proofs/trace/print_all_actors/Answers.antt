use Rattle.co_view.specs.Trace.{actor_lane}
use Rattle.co_view.proofs.Rows.{number_step}
use Rattle.co_view.proofs.trace.print_all_actors.Goals as goal

pub loop-actor-preserved : goal.loop-actor-preserved
loop-actor-preserved c = number_step (actor_lane c.args.script.now) _ _ _ _ c.loop-actor.invariant c.in_ok-print_actor_lane.ensures
