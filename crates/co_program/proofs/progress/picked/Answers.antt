-- The function runs, or waits for the lock.
use Rattle.std.proofs.Common.{rules, sym}
use Rattle.co_program.specs.Indexed.{cursor_as}
use Rattle.co_program.proofs.Others.{picked_waits}
use Rattle.co_program.proofs.progress.picked.Goals.{in-Go, in_default}
use Rattle.co_program.proofs.progress.picked.Goals as goal

pub returns-clause-cursor : goal.returns-clause-cursor
returns-clause-cursor c role =
    let from = cursor_as c.args.script.now role c.args.cursor.now in
    elim c.match-reply.branch [
      | in-Go w ↦ search rules
      | in_default w ↦ rw w.cursor-is (sym (picked_waits c.args.script.now from c.args.v.now c.args.reply.now w.in_default.not-Go))
    ]
