use Rattle.std.proofs.Common.{◌≡◌, ◌++◌}
use Rattle.co_view.specs.Lanes.{passing}
use Rattle.co_view.proofs.lanes.print_passing.Given as goal

abbrev pub invariant-loop : goal.invariant-loop
invariant-loop l = l.page ≡ l.fn.page ++ passing l.counter
