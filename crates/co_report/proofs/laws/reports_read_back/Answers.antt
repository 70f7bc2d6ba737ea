use Rattle.co_print.specs.Histories.{shown_history}
use Rattle.co_report.proofs.WholeBack.{report-back}
use Rattle.co_report.proofs.ShownFit.{history_fits}
use Rattle.co_report.proofs.laws.reports_read_back.Goals as goal

pub returns : goal.returns
returns c s lists f fit few = report-back s (shown_history lists) f (λ p e. history_fits s lists fit p) few
