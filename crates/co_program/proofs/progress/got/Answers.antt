use Rattle.co_program.proofs.Remaining.{drop-past, length-program}
use Rattle.co_program.proofs.Others.{got_empty}
use Rattle.co_program.specs.Actors.{program_of}
use Rattle.co_program.specs.Indexed.{cursor_as}
use Rattle.co_program.proofs.progress.got.Goals as goal

pub returns-in_default-clause-cursor : goal.returns-in_default-clause-cursor
returns-in_default-clause-cursor c s role is =
    let cursor = c.args.cursor.now in
    rw (c.past-cursor.ensures.value, drop-past (program_of s role) cursor.task (length-program s is role), got_empty (cursor_as s role cursor) c.args.act c.args.reply.now c.in_default.not-Got)
