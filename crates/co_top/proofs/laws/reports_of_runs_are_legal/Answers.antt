use Rattle.co_top.proofs.Judged.{legal_judged}
use Rattle.co_top.proofs.laws.reports_of_runs_are_legal.Goals as goal

pub returns : goal.returns
returns c bytes text closing given short = legal_judged text (given.holds.report.legal short)
