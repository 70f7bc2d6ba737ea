-- The slot at which the loop has come has it.
use Rattle.std.proofs.Common.{rules}
use Rattle.co_sleepq.proofs.book.timed_in.Goals as goal

pub returns-then-x-clause-some : goal.returns-then-x-clause-some
returns-then-x-clause-some c = search rules
