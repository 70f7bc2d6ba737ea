-- The time is lower than the clock's.
use Rattle.std.proofs.Common.{rules}
use Rattle.co_batch.proofs.batch.risen.Goals as goal

pub returns-in-Some-2 : goal.returns-in-Some-2
returns-in-Some-2 c = search rules
