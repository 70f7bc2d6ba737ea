-- 256 is a power of two.
use Rattle.std.proofs.Common.{arith, refl}
use Rattle.callout_bench.proofs.tasks.measure_briefly.Goals as goal

pub measure_queue-requires-clause-buckets : goal.measure_queue-requires-clause-buckets
measure_queue-requires-clause-buckets c = (omega arith, omega arith, (8, refl))
