use Rattle.co_world.proofs.shown.Positions.{well_formed}
use Rattle.co_world.proofs.laws.well_formed.Goals as goal

pub returns : goal.returns
returns c = well_formed
