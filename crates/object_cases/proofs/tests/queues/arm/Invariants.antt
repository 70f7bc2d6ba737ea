-- The queue keeps its size.
use Rattle.std.proofs.Common.{◌≡◌}
use Rattle.object_cases.proofs.tests.queues.arm.Given as goal

abbrev pub invariant-loop-i : goal.invariant-loop-i
invariant-loop-i g l = (g.Q.TimerQueue.state l.queue).size ≡ (g.Q.TimerQueue.state l.initial.queue).size
