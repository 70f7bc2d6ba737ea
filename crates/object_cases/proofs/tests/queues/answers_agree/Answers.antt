-- Sixteen buckets are a wheel.
use Rattle.std.proofs.Common.{arith, refl}
use Rattle.object_cases.proofs.tests.queues.answers_agree.Goals as goal

pub new-requires-clause-buckets : goal.new-requires-clause-buckets
new-requires-clause-buckets g c = (omega arith, omega arith, (4, refl))

pub new-requires-2-clause-buckets : goal.new-requires-2-clause-buckets
new-requires-2-clause-buckets g c = (omega arith, omega arith, (4, refl))
