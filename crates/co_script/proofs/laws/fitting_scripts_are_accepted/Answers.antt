use Rattle.co_script.proofs.Accepted.{fits-accepted}
use Rattle.co_script.proofs.laws.fitting_scripts_are_accepted.Goals as goal

pub returns : goal.returns
returns c = fits-accepted
