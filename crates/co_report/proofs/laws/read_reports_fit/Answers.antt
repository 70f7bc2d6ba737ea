use Rattle.co_report.proofs.ReadFit.{read_reports_fit}
use Rattle.co_report.proofs.laws.read_reports_fit.Goals as goal

pub returns : goal.returns
returns c = read_reports_fit
