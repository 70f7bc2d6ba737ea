use Rattle.co_view.proofs.Rows.{shown_is, some_read}
use Rattle.co_view.proofs.lanes.print_shown.Goals as goal

pub returns-then-concerns : goal.returns-then-concerns
returns-then-concerns c =
    shown_is c.print_row.result c.args.page.now c.print_row.new.page c.args.focus c.args.lines.now c.args.index c.in-Some.line.now c.concerns.result (some_read c.args.lines.now c.args.index c.in-Some.line.now c.in-Some.ensures.lookup.3.0 c.in-Some.ensures.lookup.1) c.concerns.ensures c.if-concerns.true c.print_row.ensures
