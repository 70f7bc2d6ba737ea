use Rattle.std.proofs.Common.{◌≡◌}
use Rattle.callout_bench.proofs.world.make_round.Given as goal

abbrev pub invariant-loop-actor : goal.invariant-loop-actor
invariant-loop-actor l = l.world.script ≡ l.script
