use Rattle.std.proofs.Common.{◌∙◌, sym, ap, arith, drop, Some}
use Rattle.co_program.proofs.Remaining.{drop_some, hard_scans, soft_few}
use Rattle.co_program.specs.declared.program.Task.TheVariants.{Soft}
use Rattle.co_program.specs.Actors.{program_of}
use Rattle.co_program.proofs.action.scans_of.Goals as goal

pub overflow_add-result : goal.overflow_add-result
overflow_add-result c =
    omega (arith, soft_few c.args.script.now c.requires c.args.role c.args.over c.in-Some-Soft.j (sym c.task_after.ensures ∙ c.in-Some-Soft.is ∙ ap Some c.in-Some-Soft.field-0-is))

pub returns-then-not-is_soft : goal.returns-then-not-is_soft
returns-then-not-is_soft c = sym (hard_scans c.args.script.now c.args.role c.args.over (sym c.is_soft.ensures ∙ c.if-not-is_soft.true))

pub returns-in-Some-Soft : goal.returns-in-Some-Soft
returns-in-Some-Soft c =
    let left = drop c.args.over (program_of c.args.script.now c.args.role) in
    rw (drop_some left (Soft c.in-Some-Soft.j) (sym c.task_after.ensures ∙ c.in-Some-Soft.is ∙ ap Some c.in-Some-Soft.field-0-is)) (omega arith)
