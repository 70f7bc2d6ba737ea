use Rattle.std.proofs.Common.{ℕ, List, ◌++◌, ◌∙◌, ap, count_by}
use Rattle.co_view.specs.Summary.{is_open, row_text}
use Rattle.co_view.proofs.Pieces.{two_texts}
use Rattle.co_view.proofs.Rows.{ok_then}
use Rattle.co_view.proofs.summary.print_total.Goals as goal

pub returns : goal.returns
returns c =
    ok_then c.print_row.result c.print_row.ensures
    (λ e. two_texts _ _ _ _ _ c.in_ok-text.ensures
    (e ∙ (ap (λ (cs : List ℕ). c.text.new.self ++ row_text cs c.args.timers c.pending_in_all.result) c.as_slice.ensures
    ∙ ap (λ (n : ℕ). c.text.new.self ++ row_text c.args.tally.now.counts c.args.timers n) (c.pending_in_all.ensures ∙ ap (count_by is_open) c.as_slice-2.ensures))))
