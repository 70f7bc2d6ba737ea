use Rattle.std.proofs.Common.{◌≡◌, ◌-◌, ◌≤◌, None, length, replicate}
use Rattle.co_core.proofs.depot.boot.empty_bags.Given as goal

abbrev pub invariant-loop-bags : goal.invariant-loop-bags
invariant-loop-bags l = (l.bags ≡ replicate (length l.bags) None) × (length l.bags ≤ l.count)

abbrev pub decreases-loop-bags : goal.decreases-loop-bags
decreases-loop-bags l = l.count - length l.bags
