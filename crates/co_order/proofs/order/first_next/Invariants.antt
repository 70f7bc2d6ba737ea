use Rattle.std.proofs.Common.{ℕ, ◌<◌}
use Rattle.co_order.specs.Order.{MayCome}
use Rattle.co_order.proofs.order.first_next.Given as goal

abbrev pub invariant-loop-i : goal.invariant-loop-i
invariant-loop-i l = (j : ℕ) → j < l.i → MayCome l.board.script.now l.board.lines.now l.merge.order j → ⊥
