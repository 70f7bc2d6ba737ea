use Rattle.co_sleepq.specs.Params.{ArePasses}
use Rattle.batch_cases.proofs.tests.sleep.threads.sleep_often.Given as goal

abbrev pub invariant-loop-k : goal.invariant-loop-k
invariant-loop-k g l = ArePasses g.N.Name.name g.N.SleepName.book l.queue l.passes
