use Rattle.std.proofs.Common.{◌≡◌, ◌++◌, flat_map}
use Rattle.std.specs.List.{range_with_len}
use Rattle.co_view.specs.Summary.{timer_row}
use Rattle.co_view.proofs.summary.print_timers.Given as goal

abbrev pub invariant-loop-i : goal.invariant-loop-i
invariant-loop-i l = l.page ≡ l.fn.page ++ flat_map (timer_row l.tally) (range_with_len 0 l.i)
