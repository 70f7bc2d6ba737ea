-- All lines are told to the list.
use Rattle.co_report.proofs.ReadTold.{all_in_list}
use Rattle.co_report.proofs.reading.add_lines.Goals as goal

pub returns-in-Ok : goal.returns-in-Ok
returns-in-Ok c = all_in_list c.in-Ok.reader c.args.report.now _ _ c.tell_all.result c.in-Ok.ensures.before c.requires c.tell_all.ensures
