use Rattle.co_world.proofs.shown.Lists.{lists_show}
use Rattle.co_world.proofs.laws.lists_show_histories.Goals as goal

pub returns : goal.returns
returns c = lists_show
