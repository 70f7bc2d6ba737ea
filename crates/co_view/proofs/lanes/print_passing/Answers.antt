use Rattle.co_view.proofs.Rows.{lane_step}
use Rattle.co_view.proofs.lanes.print_passing.Goals as goal

pub loop-preserved : goal.loop-preserved
loop-preserved c = lane_step _ _ _ _ c.loop.invariant c.in_ok-text.ensures
