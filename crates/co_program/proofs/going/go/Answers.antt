-- What is left of the program once the act is over is told by one more that is.
use Rattle.co_program.proofs.Remaining.{drop-past, length-program}
use Rattle.co_program.specs.Actors.{program_of, role_of}
use Rattle.co_program.proofs.going.go.Goals as goal

pub returns-in-Over-clause-cursor : goal.returns-in-Over-clause-cursor
returns-in-Over-clause-cursor c actor =
    let s = c.args.script.now in
    let role = role_of s actor in
    rw (c.in-Over.is, c.over.ensures.cursor, drop-past (program_of s role) c.args.cursor.now.task (length-program s c.requires.script role))
