use Rattle.co_single.proofs.LawsHold.{none_counted}
use Rattle.co_single.proofs.laws.no_firing_is_counted.Goals as goal

pub returns : goal.returns
returns c = none_counted
