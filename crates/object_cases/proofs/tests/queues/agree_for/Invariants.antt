-- Both queues keep their size.
use Rattle.std.proofs.Common.{◌≡◌}
use Rattle.object_cases.proofs.tests.queues.agree_for.Given as goal

abbrev pub invariant-loop-round : goal.invariant-loop-round
invariant-loop-round l = record { list : l.list.size ≡ 8; wheel : l.wheel.size ≡ 8 }
