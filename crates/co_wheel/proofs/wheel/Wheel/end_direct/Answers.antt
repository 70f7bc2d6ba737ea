-- The service that ends is the interrupt's.
use Rattle.co_wheel.proofs.wheel.Wheel.end_direct.Goals as goal

pub end_into-requires : goal.end_into-requires
end_into-requires g c = c.requires

pub returns : goal.returns
returns g c = c.end_into.ensures
