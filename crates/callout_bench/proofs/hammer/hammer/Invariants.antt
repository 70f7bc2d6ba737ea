use Rattle.co_desk.specs.Views.{AreOf}
use Rattle.callout_bench.proofs.hammer.hammer.Given as goal

abbrev pub invariant-loop-call : goal.invariant-loop-call
invariant-loop-call g l = AreOf g.N.Name.name l.service l.passes
