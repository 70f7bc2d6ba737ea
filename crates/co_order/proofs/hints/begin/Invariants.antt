use Rattle.std.proofs.Common.{◌≡◌, length}
use Rattle.co_order.proofs.hints.begin.Given as goal

-- there stay as many
abbrev pub invariant-loop-i : goal.invariant-loop-i
invariant-loop-i l = length l.counts ≡ length l.fn.counts
