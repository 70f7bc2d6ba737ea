-- The queue keeps its size.
use Rattle.std.proofs.Common.{◌≡◌}
use Rattle.callout_bench.proofs.queues.scan.Given as goal

abbrev pub invariant-loop : goal.invariant-loop
invariant-loop g l = (g.Q.TimerQueue.state l.queue).size ≡ (g.Q.TimerQueue.state l.initial.queue).size
