-- There are 256 buckets, or 16, a power of two.
use Rattle.std.proofs.Common.{arith, refl}
use Rattle.object_cases.proofs.tests.queues.order_in_a_bucket_and_in_two_turns.Goals as goal

pub new-requires-clause-buckets : goal.new-requires-clause-buckets
new-requires-clause-buckets g c = (omega arith, omega arith, (8, refl))

pub new-requires-2-clause-buckets : goal.new-requires-2-clause-buckets
new-requires-2-clause-buckets g c = (omega arith, omega arith, (8, refl))

pub new-requires-3-clause-buckets : goal.new-requires-3-clause-buckets
new-requires-3-clause-buckets g c = (omega arith, omega arith, (4, refl))

pub new-requires-4-clause-buckets : goal.new-requires-4-clause-buckets
new-requires-4-clause-buckets g c = (omega arith, omega arith, (4, refl))
