-- A call that arms nothing stops what was to fire.
use Rattle.std.proofs.Common.{rules}
use Rattle.co_gen.proofs.fates.count_call.Goals as goal

pub returns-in_ok-counts-in-Plain-2 : goal.returns-in_ok-counts-in-Plain-2
returns-in_ok-counts-in-Plain-2 c = search rules
