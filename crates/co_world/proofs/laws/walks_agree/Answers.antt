use Rattle.co_world.proofs.measure.Walks.{walks_agree}
use Rattle.co_world.proofs.laws.walks_agree.Goals as goal

pub returns : goal.returns
returns c = walks_agree
