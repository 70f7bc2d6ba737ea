use Rattle.co_gen.proofs.laws.fates_add_up.Goals as goal
use Rattle.co_gen.proofs.Totals.{fates-add-up}

pub returns : goal.returns
returns c = fates-add-up
