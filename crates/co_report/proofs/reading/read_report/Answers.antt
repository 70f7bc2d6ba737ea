-- The report of all lines is that of the text.
use Rattle.co_report.proofs.ReadTold.{all_of_text}
use Rattle.co_report.proofs.reading.read_report.Goals as goal

pub returns : goal.returns
returns c = all_of_text _ _ c.all_of.result c.in_ok-open_report.ensures.opened c.all_of.ensures
