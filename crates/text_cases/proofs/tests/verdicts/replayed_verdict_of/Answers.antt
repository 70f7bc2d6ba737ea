-- What is read may be checked.
use Rattle.text_cases.proofs.tests.verdicts.replayed_verdict_of.Goals as goal

pub check_replayed-requires : goal.check_replayed-requires
check_replayed-requires g c = c.read_reports_may_be_checked.ensures c.args.text.now c.in-Ok.report c.in-Ok.ensures
