use Rattle.co_itimer.proofs.Steps.{follows-in_step}
use Rattle.co_itimer.proofs.laws.follows_in_step.Goals as goal

pub returns : goal.returns
returns c = follows-in_step
