-- Each is a power of two.
use Rattle.std.proofs.Common.{arith, refl}
use Rattle.callout_bench.proofs.words.buckets_of.Goals as goal

pub returns-in-text : goal.returns-in-text
returns-in-text c = (omega arith, omega arith, (4, refl))

pub returns-in-text-2 : goal.returns-in-text-2
returns-in-text-2 c = (omega arith, omega arith, (8, refl))

pub returns-in-text-3 : goal.returns-in-text-3
returns-in-text-3 c = (omega arith, omega arith, (12, refl))

pub returns-in-text-4 : goal.returns-in-text-4
returns-in-text-4 c = (omega arith, omega arith, (16, refl))
