use Rattle.co_check.proofs.ReadReports.{may_check}
use Rattle.co_top.proofs.Judged.{judged_gives}
use Rattle.co_top.proofs.reading.check_report.Goals as goal

pub judged-requires : goal.judged-requires
judged-requires c = may_check c.args.bytes c.in-Ok.report c.in-Ok.ensures

pub returns-in-Ok : goal.returns-in-Ok
returns-in-Ok c = judged_gives c.args.bytes c.in-Ok.report c.judged.result c.in-Ok.ensures c.judged.ensures
