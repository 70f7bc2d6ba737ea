use Rattle.co_gen.proofs.laws.generated_scripts_fit.Goals as goal
use Rattle.co_gen.proofs.Fitting.{generated-fits}

pub returns : goal.returns
returns c = generated-fits
