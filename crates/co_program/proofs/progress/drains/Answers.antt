-- With no function named, the next callout is taken.
use Rattle.std.proofs.Common.{refl}
use Rattle.co_program.proofs.progress.drains.Goals as goal

pub returns-in-None : goal.returns-in-None
returns-in-None c = rw c.in-None.is refl
