-- Neither armed nor in service: it is live no more.
use Rattle.std.proofs.Common.{rules}
use Rattle.co_record.proofs.lifetime.retire.Goals as goal

pub returns-clause-outcome : goal.returns-clause-outcome
returns-clause-outcome c = search rules

pub returns-clause-callout : goal.returns-clause-callout
returns-clause-callout c = search rules
