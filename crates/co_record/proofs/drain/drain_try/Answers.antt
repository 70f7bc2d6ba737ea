-- A service that has the callout is waited for.
use Rattle.std.proofs.Common.{rules}
use Rattle.co_record.proofs.drain.drain_try.Goals as goal

pub returns-in-Some-clause-outcome : goal.returns-in-Some-clause-outcome
returns-in-Some-clause-outcome c = search rules
