-- A report that is read may be checked: its script is accepted, its lines are as the checker wants them, and they are few.
use Rattle.std.proofs.Common.{◌≡◌, ℕ, List, Ok}
use Rattle.co_script.proofs.Accepted.{fits-accepted}
use Rattle.co_report.specs.declared.line.Report.{Report}
use Rattle.co_report.specs.Reading.{report_read}
use Rattle.co_report.proofs.ReadFit.{read_reports_fit}
use Rattle.co_report.proofs.ReadLines.{lines_limited}
use Rattle.co_check.specs.Lines.{IsReport}
use Rattle.co_check.proofs.LinesFit.{lines_of}

pub may_check : (bytes : List ℕ) (r : Report) → report_read bytes ≡ Ok r → IsReport r
may_check bytes r e =
    let fit = read_reports_fit bytes r e in
    record { script = fits-accepted r.script fit.script; lines = lines_of r.script r.lines fit.lines; few = lines_limited bytes r e }
