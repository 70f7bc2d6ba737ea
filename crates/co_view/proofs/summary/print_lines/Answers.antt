use Rattle.std.proofs.Common.{ℕ, List, ◌++◌, ap, ◌∙◌}
use Rattle.co_view.specs.Summary.{rows_text}
use Rattle.co_view.proofs.Tallies.{same_rows}
use Rattle.co_view.proofs.summary.print_lines.Goals as goal

pub returns : goal.returns
returns c =
    same_rows c.done.result _ _ (c.in_ok-print_rows.ensures
    ∙ (ap (λ (p : List ℕ). p ++ rows_text c.args.timers c.take_all.new.self) c.new-page.ensures ∙ ap (rows_text c.args.timers) c.in_ok-take_all.ensures)) c.done.ensures
