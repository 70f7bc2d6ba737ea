-- What is read fits.
use Rattle.co_script.proofs.ReadFits.{read-fits}
use Rattle.co_top.proofs.running.run.Goals as goal

pub reported-requires-after_bounds : goal.reported-requires-after_bounds
reported-requires-after_bounds g c = λ κs lives. read-fits c.args.bytes.now c.in-Ok.script c.in-Ok.ensures

pub returns-in-Ok : goal.returns-in-Ok
returns-in-Ok g c = c.reported.ensures c.args.bytes.now c.in-Ok.ensures
