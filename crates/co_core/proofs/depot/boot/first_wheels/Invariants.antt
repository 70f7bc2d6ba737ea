use Rattle.std.proofs.Common.{◌≡◌}
use Rattle.co_wheel.specs.Cpu.{first_wheel}
use Rattle.co_core.specs.Table.{table}
use Rattle.co_core.proofs.depot.boot.first_wheels.Given as goal

abbrev pub invariant-loop-cpu : goal.invariant-loop-cpu
invariant-loop-cpu l = l.wheels ≡ table l.cpu (first_wheel l.script.timers l.script.buckets)
