use Rattle.co_program.proofs.laws.rounds_are_of_services.Goals as goal
use Rattle.co_program.proofs.ListsLook.{rounds}

pub returns : goal.returns
returns c = rounds
