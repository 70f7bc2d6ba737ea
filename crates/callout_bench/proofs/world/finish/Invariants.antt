use Rattle.std.proofs.Common.{◌≡◌}
use Rattle.callout_bench.proofs.world.finish.Given as goal

abbrev pub invariant-loop-actor : goal.invariant-loop-actor
invariant-loop-actor g l = l.world.script ≡ l.script

abbrev pub invariant-loop : goal.invariant-loop
invariant-loop g l = l.world.script ≡ l.script
