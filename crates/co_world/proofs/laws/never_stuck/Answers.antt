use Rattle.co_world.proofs.legal.Schedules.{never_stuck_all}
use Rattle.co_world.proofs.laws.never_stuck.Goals as goal

pub returns : goal.returns
returns c = never_stuck_all
