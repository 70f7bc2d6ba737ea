use Rattle.co_world.proofs.measure.Opening.{opening_fits}
use Rattle.co_world.proofs.laws.opening_fits.Goals as goal

pub returns : goal.returns
returns c = opening_fits
