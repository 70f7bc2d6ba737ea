use Rattle.std.proofs.Common.{◌≡◌}
use Rattle.co_gen.specs.Generator.{first, spec_of}
use Rattle.co_gen.proofs.script.timers.Given as goal

abbrev pub invariant-loop-timer : goal.invariant-loop-timer
invariant-loop-timer l = l.timers ≡ first spec_of l.timer
