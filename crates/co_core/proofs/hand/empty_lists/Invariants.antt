use Rattle.std.proofs.Common.{◌≡◌, [], ◌-◌, ◌≤◌, length, replicate}
use Rattle.co_core.proofs.hand.empty_lists.Given as goal

abbrev pub invariant-loop-alloc : goal.invariant-loop-alloc
invariant-loop-alloc l = (l.lists ≡ replicate (length l.lists) []) × (length l.lists ≤ l.count)

abbrev pub decreases-loop-alloc : goal.decreases-loop-alloc
decreases-loop-alloc l = l.count - length l.lists
