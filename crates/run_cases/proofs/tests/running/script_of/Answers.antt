-- What is read can run.
use Rattle.co_script.proofs.ReadFits.{read-fits}
use Rattle.run_cases.proofs.Scenes.{fitting_can_run}
use Rattle.run_cases.proofs.tests.running.script_of.Goals as goal

pub returns : goal.returns
returns g c = fitting_can_run c.in-Ok.script (read-fits c.args.text.now c.in-Ok.script c.in-Ok.ensures)
