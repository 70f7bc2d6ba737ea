use Rattle.co_check.proofs.Reported.{reports-legal}
use Rattle.co_check.proofs.laws.reports_of_runs_are_legal.Goals as goal

pub returns : goal.returns
returns c = reports-legal
