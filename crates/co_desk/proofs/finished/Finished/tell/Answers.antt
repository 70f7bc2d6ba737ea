use Rattle.std.proofs.Common.{refl}
use Rattle.co_desk.proofs.finished.Finished.tell.Goals as goal

pub returns : goal.returns
returns c = refl
