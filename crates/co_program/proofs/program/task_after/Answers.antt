use Rattle.std.proofs.Common.{◌∙◌, sym, ap}
use Rattle.std.specs.Option.{option_map}
use Rattle.co_program.proofs.Remaining.{first-drop, first_does, program-soft, program-hard}
use Rattle.co_program.specs.declared.program.Task.TheVariants.{Does}
use Rattle.co_program.specs.Actors.{acts_at, softs}
use Rattle.co_program.proofs.program.task_after.Goals as goal

pub returns-in-Client : goal.returns-in-Client
returns-in-Client c =
    rw c.in-Client.is
    (c.does.ensures ∙ ap (option_map Does) c.act_at.ensures ∙ first_does (acts_at c.args.script.now.clients c.in-Client.client) c.args.over)

pub returns-then-script-eq2 : goal.returns-then-script-eq2
returns-then-script-eq2 c =
    let s = c.args.script.now in
    rw (c.in-Cpu.is, program-soft s c.in-Cpu.cpu c.if-script-eq2.true)
    (rw c.act_count.ensures at c.soft_at.ensures ∙ sym (first-drop (softs 0 _) c.args.over))

pub returns-else-script-eq2 : goal.returns-else-script-eq2
returns-else-script-eq2 c =
    let s = c.args.script.now in
    rw (c.in-Cpu.is, program-hard s c.in-Cpu.cpu c.if-script-eq2.false)
    (c.does-else-script-eq2.ensures ∙ ap (option_map Does) c.act_at-else-script-eq2.ensures ∙ first_does (acts_at s.ticks c.in-Cpu.cpu) c.args.over)

pub returns-in-Interrupt : goal.returns-in-Interrupt
returns-in-Interrupt c =
    rw c.in-Interrupt.is
    (c.does-in-Interrupt.ensures ∙ ap (option_map Does) c.act_at-in-Interrupt.ensures ∙ first_does (acts_at c.args.script.now.ticks c.in-Interrupt.cpu) c.args.over)
