use Rattle.co_print.proofs.laws.histories_shown.Goals as goal
use Rattle.co_print.proofs.ShownHistories.{histories_shown}

pub returns : goal.returns
returns c = histories_shown
