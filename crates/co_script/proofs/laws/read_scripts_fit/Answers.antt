use Rattle.co_script.proofs.ReadFits.{read-fits}
use Rattle.co_script.proofs.laws.read_scripts_fit.Goals as goal

pub returns : goal.returns
returns c = read-fits
