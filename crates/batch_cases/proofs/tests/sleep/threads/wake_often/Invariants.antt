use Rattle.co_sleepq.specs.Params.{ArePasses}
use Rattle.batch_cases.proofs.tests.sleep.threads.wake_often.Given as goal

abbrev pub invariant-loop : goal.invariant-loop
invariant-loop g l = ArePasses g.N.Name.name g.N.SleepName.book l.queue l.passes
