use Rattle.co_world.proofs.legal.Schedules.{histories_are_legal}
use Rattle.co_world.proofs.laws.histories_are_legal.Goals as goal

pub returns : goal.returns
returns c = histories_are_legal
