use Rattle.std.proofs.Common.{ℕ, ◌++◌, ◌∙◌, ap}
use Rattle.co_view.specs.Summary.{cell_at, cell_text}
use Rattle.co_view.proofs.Rows.{number_step}
use Rattle.co_view.proofs.summary.print_cells.Goals as goal

pub loop-column-preserved : goal.loop-column-preserved
loop-column-preserved c = number_step (λ (k : ℕ). cell_text (cell_at c.args.counts.now c.args.row k) k) _ _ _ _ c.loop-column.invariant (c.in_ok-print_cell.ensures ∙ ap (λ (n : ℕ). c.loop-column.page ++ cell_text n c.loop-column.column) c.cell_at.ensures)
