use Rattle.co_view.proofs.Pieces.{four_texts}
use Rattle.co_view.proofs.Rows.{ok_then}
use Rattle.co_view.proofs.summary.print_row.Goals as goal

pub returns : goal.returns
returns c =
    ok_then c.end.result c.end.ensures
    (λ e. four_texts _ _ _ _ _ _ _ _ _ c.in_ok-print_fates.ensures c.in_ok-text.ensures c.in_ok-print_cells.ensures e)
