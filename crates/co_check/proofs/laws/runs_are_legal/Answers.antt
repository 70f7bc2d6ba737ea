use Rattle.co_check.proofs.RunsLegal.{runs-legal}
use Rattle.co_check.proofs.laws.runs_are_legal.Goals as goal

pub returns : goal.returns
returns c = runs-legal
