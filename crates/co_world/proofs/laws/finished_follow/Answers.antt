use Rattle.co_world.proofs.legal.Schedules.{finished_follow_all}
use Rattle.co_world.proofs.laws.finished_follow.Goals as goal

pub returns : goal.returns
returns c = finished_follow_all
