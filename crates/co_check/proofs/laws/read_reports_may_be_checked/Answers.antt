use Rattle.co_check.proofs.ReadReports.{may_check}
use Rattle.co_check.proofs.laws.read_reports_may_be_checked.Goals as goal

pub returns : goal.returns
returns c = may_check
