use Rattle.co_script.proofs.Accepted.{fits-accepted}
use Rattle.co_script.proofs.ReadFits.{read-fits}
use Rattle.text_cases.proofs.tests.script_of.Goals as goal

pub returns : goal.returns
returns g c = fits-accepted c.in-Ok.script (read-fits c.args.text.now c.in-Ok.script c.in-Ok.ensures)
