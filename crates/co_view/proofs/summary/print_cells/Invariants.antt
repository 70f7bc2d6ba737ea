use Rattle.std.proofs.Common.{◌≡◌, ◌++◌, flat_map}
use Rattle.std.specs.List.{range_with_len}
use Rattle.co_view.specs.Summary.{cell_at, cell_text}
use Rattle.co_view.proofs.summary.print_cells.Given as goal

abbrev pub invariant-loop-column : goal.invariant-loop-column
invariant-loop-column l = l.page ≡ l.fn.page ++ flat_map (λ c. cell_text (cell_at l.counts l.row c) c) (range_with_len 0 l.column)
