use Rattle.std.proofs.Common.{get_or}
use Rattle.std.proofs.lemmas.Option.{slice_get-get_or, slice_get_past}
use Rattle.co_order.proofs.Boards.{may_is, may_not}
use Rattle.co_order.proofs.merge.Merge.may_come.Goals as goal

pub returns-then-i-board : goal.returns-then-i-board
returns-then-i-board c =
    let lines = c.args.board.now.lines.now in
    may_is c.args.board.now.script.now lines c.args.self.now.order c.args.i (get_or lines c.args.i c.index-board-i.result) c.is_next.result (slice_get-get_or lines c.args.i c.index-board-i.result c.if-i-board.true) c.is_next.ensures

pub returns-else-i-board : goal.returns-else-i-board
returns-else-i-board c = may_not c.args.board.now.script.now c.args.board.now.lines.now c.args.self.now.order c.args.i (slice_get_past c.args.board.now.lines.now c.args.i c.if-i-board.false)
