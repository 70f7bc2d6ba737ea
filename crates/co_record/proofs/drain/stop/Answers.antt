-- Nothing stays armed, whatever the code.
use Rattle.std.proofs.Common.{rules}
use Rattle.co_record.proofs.drain.stop.Goals as goal

pub returns-clause-outcome : goal.returns-clause-outcome
returns-clause-outcome c = search rules
