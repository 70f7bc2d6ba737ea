use Rattle.std.proofs.Common.{◌≡◌, length, replicate}
use Rattle.co_program.specs.Runs.{are_direct}
use Rattle.co_check.specs.Cpu.{empty_cpu}
use Rattle.co_check.proofs.replay.cpus_of.Given as goal

abbrev pub invariant-loop : goal.invariant-loop
invariant-loop l = l.cpus ≡ replicate l.counter (empty_cpu (length l.script.timers) l.script.buckets (are_direct l.script))
