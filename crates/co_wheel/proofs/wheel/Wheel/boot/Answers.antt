-- All callouts come to CPU 0, and none to another.
use Rattle.std.proofs.Common.{rules}
use Rattle.co_wheel.proofs.wheel.Wheel.boot.Goals as goal

pub returns : goal.returns
returns g c = search rules
