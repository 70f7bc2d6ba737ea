-- The queue keeps its size.
use Rattle.std.proofs.Common.{◌≡◌}
use Rattle.callout_bench.proofs.queues.arm_all.Given as goal

abbrev pub invariant-loop-n : goal.invariant-loop-n
invariant-loop-n g l = (g.Q.TimerQueue.state l.queue).size ≡ (g.Q.TimerQueue.state l.initial.queue).size
