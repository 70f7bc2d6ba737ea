use Rattle.co_world.proofs.measure.Walks.{rounds_fall}
use Rattle.co_world.proofs.laws.rounds_fall.Goals as goal

pub returns : goal.returns
returns c = rounds_fall
