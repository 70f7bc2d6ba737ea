use Rattle.co_view.specs.Summary.{timer_row}
use Rattle.co_view.proofs.Rows.{number_step}
use Rattle.co_view.proofs.summary.print_timers.Goals as goal

pub loop-i-preserved : goal.loop-i-preserved
loop-i-preserved c = number_step (timer_row c.args.tally.now) _ _ _ _ c.loop-i.invariant c.in_ok-print_timer.ensures
