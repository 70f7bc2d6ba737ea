use Rattle.std.proofs.Common.{◌≡◌, length}
use Rattle.run_cases.proofs.tests.waits.nothing_told.Given as goal

abbrev pub invariant-loop-made : goal.invariant-loop-made
invariant-loop-made g l = length l.all.items ≡ l.made
