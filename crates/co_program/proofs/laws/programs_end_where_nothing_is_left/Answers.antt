use Rattle.co_program.proofs.laws.programs_end_where_nothing_is_left.Goals as goal
use Rattle.co_program.proofs.ListsLook.{endings}

pub returns : goal.returns
returns c = endings
