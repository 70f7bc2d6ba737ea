use Rattle.co_view.specs.Trace.{timer_lanes}
use Rattle.co_view.proofs.Rows.{number_step}
use Rattle.co_view.proofs.trace.print_all_timers.Goals as goal

pub loop-i-preserved : goal.loop-i-preserved
loop-i-preserved c = number_step timer_lanes _ _ _ _ c.loop-i.invariant c.in_ok-print_timer_lanes.ensures
