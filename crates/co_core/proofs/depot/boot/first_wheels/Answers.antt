use Rattle.std.proofs.Common.{◌++◌, ◌∷◌, [], ◌∙◌, List, ap}
use Rattle.co_wheel.specs.Cpu.{Cpu, first_wheel}
use Rattle.co_core.specs.Table.{table}
use Rattle.co_core.proofs.tables.Copies.{table-more}
use Rattle.co_core.proofs.depot.boot.first_wheels.Goals as goal

pub loop-cpu-preserved : goal.loop-cpu-preserved
loop-cpu-preserved c =
    let s = c.args.script.now in
    c.in_ok-push.ensures.ok ∙ (ap (λ (xs : List Cpu). xs ++ c.in_ok-wheel.wheel ∷ []) c.loop-cpu.invariant
    ∙ (ap (λ (x : Cpu). table c.loop-cpu.cpu (first_wheel s.timers s.buckets) ++ x ∷ []) c.in_ok-wheel.ensures
    ∙ table-more c.loop-cpu.cpu (first_wheel s.timers s.buckets)))
