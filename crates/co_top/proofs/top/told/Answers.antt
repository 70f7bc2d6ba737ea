-- The status of what was written, or WriteFault.
use Rattle.std.proofs.Common.{refl}
use Rattle.co_top.proofs.top.told.Goals as goal

pub returns-in-Ok : goal.returns-in-Ok
returns-in-Ok c = rw c.in-Ok.is refl

pub returns-in-Err : goal.returns-in-Err
returns-in-Err c = rw c.in-Err.is refl
