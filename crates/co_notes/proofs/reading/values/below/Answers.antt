-- The test itself.
use Rattle.std.proofs.Common.{rules}
use Rattle.co_notes.proofs.reading.values.below.Goals as goal

pub returns-then-number-bound-clause-bounded : goal.returns-then-number-bound-clause-bounded
returns-then-number-bound-clause-bounded c = c.if-number-bound.true

pub returns-then-number-bound-clause-value : goal.returns-then-number-bound-clause-value
returns-then-number-bound-clause-value c = search rules
