-- There are 16 buckets, a power of two.
use Rattle.std.proofs.Common.{refl, arith}
use Rattle.object_cases.proofs.tests.wheels.services.Goals as goal

pub new-requires-clause-buckets : goal.new-requires-clause-buckets
new-requires-clause-buckets g c = (omega arith, omega arith, (4, refl))
