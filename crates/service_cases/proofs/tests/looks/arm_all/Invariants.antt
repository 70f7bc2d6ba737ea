use Rattle.co_desk.specs.Views.{AreOf}
use Rattle.service_cases.proofs.tests.looks.arm_all.Given as goal

abbrev pub invariant-loop-i : goal.invariant-loop-i
invariant-loop-i g l = AreOf g.N.Name.name l.service l.client
