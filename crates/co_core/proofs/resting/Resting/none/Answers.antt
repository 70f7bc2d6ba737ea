use Rattle.co_core.specs.declared.resting.Known.TheVariants.{Nothing}
use Rattle.co_core.proofs.walked.Known.{none_known}
use Rattle.co_core.proofs.resting.Resting.none.Goals as goal

pub returns : goal.returns
returns c a = none_known Nothing 48 a
