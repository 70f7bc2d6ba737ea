use Rattle.co_core.proofs.stored.OnePlace.{wheels_are_of_worlds}
use Rattle.co_core.proofs.laws.wheels_are_of_worlds.Goals as goal

pub returns : goal.returns
returns c = wheels_are_of_worlds
