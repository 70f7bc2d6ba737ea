use Rattle.std.proofs.Common.{◌∙◌, sym, ap, drop}
use Rattle.co_program.proofs.Remaining.{drop_some, task_below}
use Rattle.co_program.proofs.Others.{begins_call}
use Rattle.co_program.specs.declared.program.Task.TheVariants.{Does}
use Rattle.co_program.specs.Actors.{program_of}
use Rattle.co_program.specs.Action.{asks_covered}
use Rattle.co_program.specs.Advance.{tail_of}
use Rattle.co_program.specs.Indexed.{cursor_as}
use Rattle.co_program.proofs.action.does.Goals as goal

pub returns-in_default-clause-action : goal.returns-in_default-clause-action
returns-in_default-clause-action c =
    let s = c.args.script.now in
    let left = drop c.args.cursor.now.task (program_of s c.args.role) in
    rw (drop_some left (Does c.args.act.now) c.requires.next)
    (
    c.asks_call.ensures.action c.args.role
    ∙ (ap (asks_covered s c.args.cursor.now.hold c.args.cursor.now.act) (c.here_of.ensures s.hz c.args.cursor.now.time 0)
    ∙ sym (begins_call s c.args.role (cursor_as s c.args.role c.args.cursor.now) (tail_of left) c.args.act.now c.in_default.not-Now c.in_default.not-Lock c.in_default.not-ReadLock c.in_default.not-Unlock c.in_default.not-Drain c.in_default.not-Tick))
    )

pub returns-in-Now-clause-counted : goal.returns-in-Now-clause-counted
returns-in-Now-clause-counted c = c.tells.ensures.counted (task_below c.args.script.now c.requires.script c.args.role c.args.cursor.now.task (Does c.args.act.now) c.requires.next)

pub returns-in-Lock-clause-counted : goal.returns-in-Lock-clause-counted
returns-in-Lock-clause-counted c = c.takes.ensures.counted (task_below c.args.script.now c.requires.script c.args.role c.args.cursor.now.task (Does c.args.act.now) c.requires.next)

pub returns-in-ReadLock-clause-counted : goal.returns-in-ReadLock-clause-counted
returns-in-ReadLock-clause-counted c = c.takes-in-ReadLock.ensures.counted (task_below c.args.script.now c.requires.script c.args.role c.args.cursor.now.task (Does c.args.act.now) c.requires.next)

pub returns-in-Unlock-clause-counted : goal.returns-in-Unlock-clause-counted
returns-in-Unlock-clause-counted c = c.unlocks.ensures.counted (task_below c.args.script.now c.requires.script c.args.role c.args.cursor.now.task (Does c.args.act.now) c.requires.next)
