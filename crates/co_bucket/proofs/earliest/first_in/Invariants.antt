-- The bucket's list in two parts, of which the first has been looked at.
use Rattle.co_bucket.proofs.Looking.{Looking}
use Rattle.co_bucket.proofs.earliest.first_in.Given as goal

abbrev pub invariant-loop : goal.invariant-loop
invariant-loop l = Looking l.rings l.times l.bucket l.initial.first l.first l.at l.counter
