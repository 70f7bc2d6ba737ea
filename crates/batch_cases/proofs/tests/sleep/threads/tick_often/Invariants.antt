use Rattle.std.proofs.Common.{false}
use Rattle.co_desk.specs.Services.{IsFree}
use Rattle.co_sleepq.specs.Params.{ArePasses}
use Rattle.batch_cases.proofs.tests.sleep.threads.tick_often.Given as goal

abbrev pub invariant-loop : goal.invariant-loop
invariant-loop g l = record {
  of : ArePasses g.N.Name.name g.N.SleepName.book l.queue l.passes;
  free : IsFree false l.passes.service 0;
}
