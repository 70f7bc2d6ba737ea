use Rattle.std.proofs.Common.{◌≡◌}
use Rattle.co_gen.specs.Generator.{first, group_kind}
use Rattle.co_gen.proofs.script.locks.Given as goal

abbrev pub invariant-loop-lock : goal.invariant-loop-lock
invariant-loop-lock l = l.locks ≡ first group_kind l.lock
