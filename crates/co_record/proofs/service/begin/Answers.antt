-- A cancelled call is skipped.
use Rattle.std.proofs.Common.{rules}
use Rattle.co_record.proofs.service.begin.Goals as goal

pub returns-then-slot-clause-outcome : goal.returns-then-slot-clause-outcome
returns-then-slot-clause-outcome c = search rules
