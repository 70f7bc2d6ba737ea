use Rattle.co_gen.specs.Generator.{group_kind}
use Rattle.co_gen.proofs.Ranges.{pushed}
use Rattle.co_gen.proofs.script.locks.Goals as goal

pub loop-lock-preserved : goal.loop-lock-preserved
loop-lock-preserved c = pushed group_kind c.loop-lock.lock c.loop-lock.locks c.push.new.self c.lock_kind.result c.loop-lock.invariant c.lock_kind.ensures c.in_ok-push.ensures.ok
