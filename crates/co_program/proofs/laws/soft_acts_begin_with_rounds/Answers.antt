use Rattle.co_program.proofs.laws.soft_acts_begin_with_rounds.Goals as goal
use Rattle.co_program.proofs.ListsLook.{softs}

pub returns : goal.returns
returns c = softs
