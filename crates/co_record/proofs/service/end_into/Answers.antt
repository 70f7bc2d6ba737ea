-- A deferred arming is the record's own from now on.
use Rattle.std.proofs.Common.{rules}
use Rattle.co_record.proofs.service.end_into.Goals as goal

pub returns-clause-outcome : goal.returns-clause-outcome
returns-clause-outcome c = search rules
