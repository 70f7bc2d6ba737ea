use Rattle.std.proofs.Common.{length}
use Rattle.co_text.proofs.Contents.{Left}
use Rattle.co_text.proofs.lines.behind_fours.Given as goal

abbrev pub decreases-loop-rest : goal.decreases-loop-rest
decreases-loop-rest l = length l.rest

abbrev pub invariant-loop-rest : goal.invariant-loop-rest
invariant-loop-rest l = Left l.line l.rest
