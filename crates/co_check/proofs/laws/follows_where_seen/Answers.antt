use Rattle.co_check.proofs.Nexts.{follows-then, then-follows}
use Rattle.co_check.proofs.laws.follows_where_seen.Goals as goal

pub returns : goal.returns
returns c = λ s H a notes xs h. (follows-then s H a notes xs h, then-follows s H a notes xs h)
