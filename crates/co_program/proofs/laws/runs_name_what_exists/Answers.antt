use Rattle.co_program.proofs.RunsName.{runs_name}
use Rattle.co_program.proofs.laws.runs_name_what_exists.Goals as goal

pub returns : goal.returns
returns c = runs_name
