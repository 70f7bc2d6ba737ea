use Rattle.co_single.proofs.LawsHold.{each_due}
use Rattle.co_single.proofs.laws.each_due_fires_once.Goals as goal

pub returns : goal.returns
returns c = each_due
