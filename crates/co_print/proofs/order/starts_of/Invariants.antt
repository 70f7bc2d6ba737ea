use Rattle.std.proofs.Common.{◌≡◌, ◌++◌, drop}
use Rattle.co_print.specs.Order.{starts_from}
use Rattle.co_print.proofs.order.starts_of.Given as goal

-- what is written, and what is still to come
abbrev pub invariant-loop-count : goal.invariant-loop-count
invariant-loop-count l = l.starts ++ starts_from l.start (drop l.count-index l.counts) ≡ starts_from 0 l.counts
