use Rattle.co_print.specs.Order.{AreWritten}
use Rattle.co_print.proofs.order.write_list.Given as goal

-- the origins of those of the first notes that are of the part are written
abbrev pub invariant-loop-number : goal.invariant-loop-number
invariant-loop-number l = AreWritten l.script l.lists l.first l.starts l.origins l.actor l.number
