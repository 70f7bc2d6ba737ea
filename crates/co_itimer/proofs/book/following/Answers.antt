-- The least such time, where it is a time, and the last one else.
use Rattle.std.proofs.Common.{rules}
use Rattle.co_itimer.proofs.book.following.Goals as goal

pub returns-then-next-lt9223372036854775807 : goal.returns-then-next-lt9223372036854775807
returns-then-next-lt9223372036854775807 c = search rules

pub returns-else-next-lt9223372036854775807 : goal.returns-else-next-lt9223372036854775807
returns-else-next-lt9223372036854775807 c = search rules
