use Rattle.co_world.proofs.schedules.TurnsTold.{turns_tell}
use Rattle.co_world.proofs.laws.turns_tell.Goals as goal

pub returns : goal.returns
returns c = turns_tell
