use Rattle.co_single.proofs.LawsHold.{each_counted}
use Rattle.co_single.proofs.laws.each_firing_is_counted.Goals as goal

pub returns : goal.returns
returns c = each_counted
