use Rattle.std.proofs.Common.{◌≡◌}
use Rattle.service_cases.specs.Timers.{scene}
use Rattle.service_cases.proofs.tests.timers.threads.turn_often.Given as goal

abbrev pub invariant-loop : goal.invariant-loop
invariant-loop g l = l.cpu.others.passes.params ≡ scene
