use Rattle.co_program.proofs.Remaining.{drop-past}
use Rattle.co_program.specs.Actors.{acts_at}
use Rattle.co_program.proofs.progress.one_less.Goals as goal
use Rattle.std.proofs.Common.{arith}

pub returns : goal.returns
returns c s is = rw c.past.ensures.value (drop-past (acts_at s.funcs c.args.left.func) c.args.left.done (omega (arith, is.short_funcs c.args.left.func)))
