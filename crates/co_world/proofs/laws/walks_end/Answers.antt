use Rattle.co_world.proofs.measure.Walks.{walks_end}
use Rattle.co_world.proofs.laws.walks_end.Goals as goal

pub returns : goal.returns
returns c = walks_end
