use Rattle.co_program.proofs.laws.calls_are_groups.Goals as goal
use Rattle.co_program.proofs.ListsLook.{calls}

pub returns : goal.returns
returns c = calls
