use Rattle.co_world.proofs.names.Notes.{notes_name}
use Rattle.co_world.proofs.laws.notes_name_what_exists.Goals as goal

pub returns : goal.returns
returns c = notes_name
