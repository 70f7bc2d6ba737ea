use Rattle.co_world.proofs.names.Places.{have_places}
use Rattle.co_world.proofs.laws.notes_have_places.Goals as goal

pub returns : goal.returns
returns c = have_places
