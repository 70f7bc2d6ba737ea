use Rattle.co_order.specs.Merging.{IsMerging, not_come}
use Rattle.co_order.proofs.order.take_rest.Given as goal

abbrev pub invariant-loop-at : goal.invariant-loop-at
invariant-loop-at l = IsMerging l.board.script.now l.board.lines.now l.merge

abbrev pub decreases-loop-at : goal.decreases-loop-at
decreases-loop-at l = not_come l.merge
