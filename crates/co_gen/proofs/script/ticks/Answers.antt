use Rattle.co_gen.specs.Generator.{tick_acts}
use Rattle.co_gen.proofs.Ranges.{pushed}
use Rattle.co_gen.proofs.script.ticks.Goals as goal

pub loop-preserved : goal.loop-preserved
loop-preserved c = pushed (λ cpu. tick_acts) c.loop.counter c.loop.ticks c.push.new.self c.in_ok-tick_acts.field-0 c.loop.invariant c.in_ok-tick_acts.ensures c.in_ok-push.ensures.ok
