use Rattle.std.proofs.Common.{List, length, ap, ◌∙◌}
use Rattle.co_object.specs.declared.Spec.{Spec}
use Rattle.co_report.specs.declared.line.Line.{Line}
use Rattle.co_view.specs.Summary.{rows_text, tally_of}
use Rattle.co_view.proofs.Tallies.{same_rows}
use Rattle.co_view.proofs.summary.print_summary.Goals as goal

pub returns : goal.returns
returns c =
    same_rows c.print_lines.result _ _ (ap (λ (xs : List Spec). rows_text (length xs) (tally_of (length xs) c.as_slice.result.now)) c.as_slice-timers.ensures
    ∙ ap (λ (ls : List Line). rows_text (length c.args.report.now.script.timers) (tally_of (length c.args.report.now.script.timers) ls)) c.as_slice.ensures) c.print_lines.ensures
