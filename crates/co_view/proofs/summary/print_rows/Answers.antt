use Rattle.co_view.proofs.Pieces.{two_texts}
use Rattle.co_view.proofs.Rows.{ok_then}
use Rattle.co_view.proofs.summary.print_rows.Goals as goal

pub returns : goal.returns
returns c = ok_then c.print_total.result c.print_total.ensures (λ e. two_texts _ _ _ _ _ c.in_ok-print_timers.ensures e)
