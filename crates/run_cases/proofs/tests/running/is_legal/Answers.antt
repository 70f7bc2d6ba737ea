-- What is read may be checked.
use Rattle.co_check.proofs.ReadReports.{may_check}
use Rattle.run_cases.proofs.tests.running.is_legal.Goals as goal

pub check-verdict-requires : goal.check-verdict-requires
check-verdict-requires c = may_check c.args.text.now c.in-Ok.report c.in-Ok.ensures
