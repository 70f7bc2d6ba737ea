use Rattle.co_world.proofs.legal.Runs.{walks_are_runs}
use Rattle.co_world.proofs.laws.walks_are_runs.Goals as goal

pub returns : goal.returns
returns c = walks_are_runs
