-- Sums that are too large are the last time.
use Rattle.std.proofs.Common.{rules}
use Rattle.co_sbt.proofs.sbt.Sbt.sat_add.Goals as goal

pub returns-else-sum-lt9223372036854775807 : goal.returns-else-sum-lt9223372036854775807
returns-else-sum-lt9223372036854775807 c = search rules
