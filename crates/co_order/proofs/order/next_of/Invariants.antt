use Rattle.std.proofs.Common.{length}
use Rattle.co_order.proofs.order.next_of.Given as goal

abbrev pub decreases-loop-index : goal.decreases-loop-index
decreases-loop-index l = length l.woken.items
