-- The callout keeps its spec.
use Rattle.std.proofs.Common.{◌≡◌}
use Rattle.object_cases.proofs.tests.functions.running.Given as goal

abbrev pub invariant-loop-op : goal.invariant-loop-op
invariant-loop-op l = l.callout.spec ≡ l.fn.spec
