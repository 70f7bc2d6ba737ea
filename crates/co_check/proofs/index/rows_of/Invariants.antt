use Rattle.std.proofs.Common.{◌≡◌, map, replicate, take}
use Rattle.co_check.proofs.index.rows_of.Given as goal

abbrev pub invariant-loop-count : goal.invariant-loop-count
invariant-loop-count g l = map (λ row. row.items) l.rows ≡ map (λ n. replicate n l.item) (take l.count-index l.lengths)
