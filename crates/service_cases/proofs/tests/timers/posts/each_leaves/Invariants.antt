-- The posts stay those of the service.
use Rattle.std.proofs.Common.{◌≡◌}
use Rattle.service_cases.proofs.tests.timers.posts.each_leaves.Given as goal

abbrev pub invariant-loop-post : goal.invariant-loop-post
invariant-loop-post g l = l.timers.params ≡ l.posts.params
