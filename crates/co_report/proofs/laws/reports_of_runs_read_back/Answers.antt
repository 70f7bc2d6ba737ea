use Rattle.co_print.specs.Histories.{shown_history}
use Rattle.co_report.proofs.NotesFit.{run_fits}
use Rattle.co_report.proofs.WholeBack.{report-back}
use Rattle.co_report.proofs.ShownFit.{history_fits}
use Rattle.co_report.proofs.laws.reports_of_runs_read_back.Goals as goal

pub returns : goal.returns
returns c s lists f run typed few = report-back s (shown_history lists) f (λ p e. history_fits s lists (run_fits s lists f run typed) p) few
