use Rattle.std.proofs.Common.{◌≡◌, ◌++◌, flat_map}
use Rattle.std.specs.List.{range_with_len}
use Rattle.co_view.specs.Svg.{column_head}
use Rattle.co_view.proofs.svg.print_columns.Given as goal

abbrev pub invariant-loop-actor : goal.invariant-loop-actor
invariant-loop-actor l = l.page ≡ l.fn.page ++ flat_map (column_head l.script l.steps) (range_with_len 0 l.actor)
