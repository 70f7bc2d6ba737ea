use Rattle.co_world.proofs.names.Notes.{walks_name}
use Rattle.co_world.proofs.laws.walks_name_what_exists.Goals as goal

pub returns : goal.returns
returns c = walks_name
