use Rattle.std.proofs.Common.{ℕ, ◌<◌, get_or}
use Rattle.co_order.proofs.order.first_zero.Given as goal

abbrev pub invariant-loop-i : goal.invariant-loop-i
invariant-loop-i l = (j : ℕ) → j < l.i → 0 < get_or l.come j 0
