use Rattle.co_program.proofs.Remaining.{drop-past, length-program}
use Rattle.co_program.proofs.Others.{act_over_outside}
use Rattle.co_program.specs.Actors.{program_of}
use Rattle.co_program.specs.Indexed.{cursor_as}
use Rattle.co_program.proofs.progress.act_over.Goals as goal

pub returns-in_default-clause-cursor : goal.returns-in_default-clause-cursor
returns-in_default-clause-cursor c role =
    let s = c.args.script.now in
    let cursor = c.args.cursor.now in
    rw (
      act_over_outside s (cursor_as s role cursor) cursor.stage c.in_default.not-Firing c.in_default.not-Drained,
      c.over.ensures.cursor,
      drop-past (program_of s role) cursor.task (length-program s c.requires.script role),
    )
