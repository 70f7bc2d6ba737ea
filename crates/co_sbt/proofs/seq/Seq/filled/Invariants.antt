use Rattle.std.proofs.Common.{◌≡◌, replicate}
use Rattle.co_sbt.proofs.seq.Seq.filled.Given as goal

abbrev pub invariant-loop : goal.invariant-loop
invariant-loop g l = l.list ≡ replicate l.counter l.item
