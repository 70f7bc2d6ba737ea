use Rattle.co_top.proofs.Judged.{legal_judged}
use Rattle.co_top.proofs.laws.reports_of_steps_are_legal.Goals as goal

pub returns : goal.returns
returns c bytes text given short = legal_judged text (given.holds.report.legal short)
