use Rattle.co_world.proofs.legal.Schedules.{no_remove_is_missing}
use Rattle.co_world.proofs.laws.no_remove_is_missing.Goals as goal

pub returns : goal.returns
returns c = no_remove_is_missing
