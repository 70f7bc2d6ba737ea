use Rattle.std.proofs.Common.{◌≡◌}
use Rattle.co_gen.specs.Generator.{first, tick_acts}
use Rattle.co_gen.proofs.script.ticks.Given as goal

abbrev pub invariant-loop : goal.invariant-loop
invariant-loop l = l.ticks ≡ first (λ cpu. tick_acts) l.counter
