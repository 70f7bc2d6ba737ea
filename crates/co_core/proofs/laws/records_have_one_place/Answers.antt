use Rattle.co_core.proofs.stored.OnePlace.{records_have_one_place}
use Rattle.co_core.proofs.laws.records_have_one_place.Goals as goal

pub returns : goal.returns
returns c = records_have_one_place
