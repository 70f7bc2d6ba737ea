use Rattle.co_core.proofs.stored.OnePlace.{callouts_have_one_slot}
use Rattle.co_core.proofs.laws.callouts_have_one_slot.Goals as goal

pub returns : goal.returns
returns c = callouts_have_one_slot
