use Rattle.co_world.proofs.stuck.UnderLock.{begins_under_lock}
use Rattle.co_world.proofs.laws.begins_under_lock.Goals as goal

pub returns : goal.returns
returns c = begins_under_lock
