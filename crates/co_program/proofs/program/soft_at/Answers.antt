use Rattle.co_program.proofs.Remaining.{slice_get-softs, slice_get-softs_end}
use Rattle.std.proofs.Common.{sym, arith}
use Rattle.co_program.proofs.program.soft_at.Goals as goal

pub returns-then-index-count : goal.returns-then-index-count
returns-then-index-count c = sym (slice_get-softs 0 c.args.count c.args.index c.args.index (omega arith) (omega arith))

pub returns-else-index-count : goal.returns-else-index-count
returns-else-index-count c = sym (slice_get-softs_end 0 c.args.count c.args.index (omega arith))
