use Rattle.co_check.proofs.ReadReports.{may_check}
use Rattle.co_view_top.proofs.top.answer_to.Goals as goal

pub shown-requires : goal.shown-requires
shown-requires c = may_check c.args.bytes.now c.in-Ok.report c.in-Ok.ensures
