-- The CPUs stay those of the scene.
use Rattle.std.proofs.Common.{◌≡◌}
use Rattle.service_cases.specs.Timers.{scene}
use Rattle.service_cases.proofs.tests.timers.scenes.Cast.wrong_row.Given as goal

abbrev pub invariant-loop-number : goal.invariant-loop-number
invariant-loop-number g l = record {
  first : l.self.first.others.passes.params ≡ scene;
  second : l.self.second.others.passes.params ≡ scene;
}
