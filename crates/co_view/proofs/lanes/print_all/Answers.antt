use Rattle.std.proofs.Common.{ℕ, List, ap, ◌++◌, ◌∙◌, flat_map}
use Rattle.co_report.specs.declared.line.Line.{Line}
use Rattle.co_view.specs.Lanes.{header_text, row_at}
use Rattle.co_view.proofs.Rows.{grown, same_text}
use Rattle.co_view.proofs.lanes.print_all.Goals as goal

pub returns : goal.returns
returns c =
    let header : List ℕ = header_text c.args.report.now.script in
    let rows = λ (lines : List Line). flat_map (row_at c.args.focus lines) c.args.order.now in
    same_text c.done.result _ _
    (c.in_ok-print_rows.ensures
    ∙ (ap (λ (u : List ℕ). u ++ rows c.as_slice.result.now) (grown c.args.roll.now.pieces c.args.roll.now.page c.print_header.new.page header c.in_ok-print_header.ensures ∙ ap (λ (u : List ℕ). u ++ header) c.requires.empty)
    ∙ ap (λ (lines : List Line). header ++ rows lines) c.as_slice.ensures)) c.done.ensures
