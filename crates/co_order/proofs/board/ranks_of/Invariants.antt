use Rattle.co_order.proofs.Boards.{IsRanking}
use Rattle.co_order.proofs.board.ranks_of.Given as goal

-- the ranks of the first lines
abbrev pub invariant-loop-line : goal.invariant-loop-line
invariant-loop-line l = IsRanking l.script l.lines l.line-index l.counts l.ranks
