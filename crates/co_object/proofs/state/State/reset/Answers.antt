-- No drain stands: the callout is armed.
use Rattle.std.proofs.Common.{rules}
use Rattle.co_object.proofs.state.State.reset.Goals as goal

pub returns : goal.returns
returns c = search rules
