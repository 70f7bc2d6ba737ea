use Rattle.co_world.proofs.measure.Walks.{every_step_falls}
use Rattle.co_world.proofs.laws.every_step_falls.Goals as goal

pub returns : goal.returns
returns c = every_step_falls
