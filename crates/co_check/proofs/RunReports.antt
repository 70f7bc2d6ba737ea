-- The report of a run is read back and is legal: what its notes name exists, so that its lines are as the checker wants them,
-- and the lines of each place are the place's shown history.
use Rattle.std.proofs.Common.{◌≡◌, ◌+◌, length, Ok}
use Rattle.co_object.specs.declared.Place.{Place}
use Rattle.co_text.specs.Lines.{lines_of as text_lines}
use Rattle.co_script.specs.Canonical.{canonical}
use Rattle.co_report.specs.declared.line.Report.{Report}
use Rattle.co_print.specs.Histories.{shown_history}
use Rattle.co_print.specs.Reports.{report_of}
use Rattle.co_report.specs.Reading.{report_read}
use Rattle.co_report.specs.Laws.{ListsFit, ReportFits, report_of_histories}
use Rattle.co_report.proofs.NotesFit.{run_fits}
use Rattle.co_report.proofs.ReadFit.{read_reports_fit}
use Rattle.co_report.proofs.ShownFit.{history_fits}
use Rattle.co_report.proofs.WholeBack.{report-back}
use Rattle.co_check.specs.Runs.{ReportsOfRunsAreReadAsLegal}
use Rattle.co_check.proofs.LinesFit.{lines_of}
use Rattle.co_check.proofs.Reported.{reports-legal}
use Rattle.co_check.proofs.Sections.{none-shown, sections_show}

pub read-as-legal : ReportsOfRunsAreReadAsLegal
read-as-legal s lists f run typed short =
    let fit : ListsFit s lists = run_fits s lists f run typed in
    let report : Report = report_of_histories s (shown_history lists) in
    let read : report_read (report_of s lists) ≡ Ok report = report-back s (shown_history lists) f (λ p e. history_fits s lists fit p) short in
    let of_report : ReportFits report = read_reports_fit (report_of s lists) report read in
    record {
      read = read;
      legal = reports-legal s lists report.lines report.end run (lines_of s report.lines of_report.lines)
          (λ (p : Place). sections_show s (shown_history lists) (λ q absent. none-shown s q absent lists run.places) (length (text_lines (canonical s)) + 3) p);
    }
