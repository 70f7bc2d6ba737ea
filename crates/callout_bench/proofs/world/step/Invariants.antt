use Rattle.std.proofs.Common.{◌≡◌}
use Rattle.callout_bench.proofs.world.step.Given as goal

abbrev pub invariant-loop : goal.invariant-loop
invariant-loop l = l.world.script ≡ l.fn.world.script
