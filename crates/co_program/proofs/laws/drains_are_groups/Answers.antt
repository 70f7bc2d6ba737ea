use Rattle.co_program.proofs.laws.drains_are_groups.Goals as goal
use Rattle.co_program.proofs.ListsLook.{drains}

pub returns : goal.returns
returns c = drains
