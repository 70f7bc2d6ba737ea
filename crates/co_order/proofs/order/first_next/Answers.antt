use Rattle.co_order.proofs.Boards.{none_next}
use Rattle.co_order.proofs.order.first_next.Goals as goal

pub returns : goal.returns
returns c = none_next c.args.board.now.script.now c.args.board.now.lines.now c.args.merge.now.order c.loop-i.i c.loop-i.invariant c.loop-i-test.false
