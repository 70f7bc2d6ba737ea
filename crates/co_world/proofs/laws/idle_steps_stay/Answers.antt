use Rattle.co_world.proofs.measure.Walks.{idle_steps_stay}
use Rattle.co_world.proofs.laws.idle_steps_stay.Goals as goal

pub returns : goal.returns
returns c = idle_steps_stay
