use Rattle.co_program.proofs.laws.functions_make_their_acts.Goals as goal
use Rattle.co_program.proofs.ListsLook.{functions}

pub returns : goal.returns
returns c = functions
