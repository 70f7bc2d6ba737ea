use Rattle.co_sleepq.proofs.laws.one_actor_sees_all.Goals as goal
use Rattle.co_sleepq.proofs.Alone.{alone}

pub returns : goal.returns
returns c = alone
