use Rattle.co_check.proofs.LegalReports.{legal-reports}
use Rattle.co_check.proofs.laws.legal_reports_are_of_runs.Goals as goal

pub returns : goal.returns
returns c = legal-reports
