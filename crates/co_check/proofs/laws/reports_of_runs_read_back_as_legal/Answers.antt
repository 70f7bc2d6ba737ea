use Rattle.co_check.proofs.RunReports.{read-as-legal}
use Rattle.co_check.proofs.laws.reports_of_runs_read_back_as_legal.Goals as goal

pub returns : goal.returns
returns c = read-as-legal
