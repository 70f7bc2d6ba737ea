-- A new arming takes the place of any old one, and the code tells it.
use Rattle.std.proofs.Common.{rules}
use Rattle.co_object.proofs.state.State.arm.Goals as goal

pub returns : goal.returns
returns c = search rules
