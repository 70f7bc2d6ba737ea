use Rattle.co_single.proofs.LawsHold.{as_many}
use Rattle.co_single.proofs.laws.as_many_as_answered.Goals as goal

pub returns : goal.returns
returns c = as_many
