use Rattle.std.proofs.Common.{length}
use Rattle.co_text.specs.Values.{IsLeft}
use Rattle.co_text.proofs.values.fours_spelled.Given as goal

abbrev pub decreases-loop-rest : goal.decreases-loop-rest
decreases-loop-rest l = length l.rest

-- the digits before what is left have been read
abbrev pub invariant-loop-rest : goal.invariant-loop-rest
invariant-loop-rest l = IsLeft l.word l.rest l.value
