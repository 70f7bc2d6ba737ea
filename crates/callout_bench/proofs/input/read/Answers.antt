-- What is read is a script that the core runs.
use Rattle.co_script.proofs.Accepted.{fits-accepted}
use Rattle.co_script.proofs.ReadFits.{read-fits}
use Rattle.callout_bench.proofs.input.read.Goals as goal

pub returns-in-Ok-read_script : goal.returns-in-Ok-read_script
returns-in-Ok-read_script g c =
    let read = c.in-Ok-read_script in
    fits-accepted read.script (read-fits _ read.script read.ensures)
