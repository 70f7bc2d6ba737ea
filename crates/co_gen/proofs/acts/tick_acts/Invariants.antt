use Rattle.std.proofs.Common.{◌≡◌}
use Rattle.co_gen.specs.Generator.{first, tick}
use Rattle.co_gen.proofs.acts.tick_acts.Given as goal

abbrev pub invariant-loop-number : goal.invariant-loop-number
invariant-loop-number l = l.acts ≡ first tick l.number
