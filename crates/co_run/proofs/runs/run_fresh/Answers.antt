-- The service has what it was booted with.
use Rattle.std.proofs.Common.{subst, sym}
use Rattle.co_run.specs.Jobs.{MayRun}
use Rattle.co_run.proofs.runs.run_fresh.Goals as goal

pub run_open-requires-clause-may : goal.run_open-requires-clause-may
run_open-requires-clause-may g c κs lives = subst (λ params. MayRun c.args.script.now g.N.Name.name params c.args.passes) (sym c.in_ok-service.ensures) c.requires.may
