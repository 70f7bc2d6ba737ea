use Rattle.std.proofs.Common.{◌≡◌}
use Rattle.text_cases.proofs.tests.scripted.worlds.goes.Given as goal

abbrev pub invariant-loop-actor : goal.invariant-loop-actor
invariant-loop-actor l = l.world.script ≡ l.script
