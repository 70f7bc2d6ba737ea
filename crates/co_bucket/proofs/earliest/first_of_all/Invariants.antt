-- The first time of the buckets that have been seen.
use Rattle.std.proofs.Common.{◌≡◌, ◌<◌}
use Rattle.std.specs.declared.option.Option.TheVariants.{None}
use Rattle.co_bucket.specs.Earliest.{least}
use Rattle.co_bucket.proofs.Looking.{seen}
use Rattle.co_bucket.proofs.earliest.first_of_all.Given as goal

abbrev pub invariant-loop-d : goal.invariant-loop-d
invariant-loop-d l = (some : 0 < l.buckets) → l.first ≡ least l.times None (seen l.rings l.times l.buckets l.fn.last some l.d)
