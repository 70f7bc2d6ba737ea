use Rattle.co_gen.specs.Generator.{spec_of}
use Rattle.co_gen.proofs.Ranges.{pushed}
use Rattle.co_gen.proofs.script.timers.Goals as goal

pub loop-timer-preserved : goal.loop-timer-preserved
loop-timer-preserved c = pushed spec_of c.loop-timer.timer c.loop-timer.timers c.push.new.self c.spec_of.result c.loop-timer.invariant c.spec_of.ensures c.in_ok-push.ensures.ok
