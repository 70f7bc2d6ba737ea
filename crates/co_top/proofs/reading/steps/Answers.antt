use Rattle.co_script.proofs.ReadFits.{read-fits}
use Rattle.co_top.proofs.Judged.{walked_gives}
use Rattle.co_top.proofs.reading.steps.Goals as goal

-- what is read fits
pub walked-requires : goal.walked-requires
walked-requires c = read-fits c.args.bytes.now c.in-Ok.script c.in-Ok.ensures

pub returns-in-Ok : goal.returns-in-Ok
returns-in-Ok c = walked_gives c.args.bytes.now c.in-Ok.script c.walked.result c.in-Ok.ensures c.walked.ensures.status c.walked.ensures.report
