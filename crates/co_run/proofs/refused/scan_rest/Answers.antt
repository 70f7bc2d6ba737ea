-- What served nothing serves nothing still.
use Rattle.co_program.specs.Actors.{role_of}
use Rattle.co_run.proofs.kept.ByOwedScans.{serves_still}
use Rattle.co_run.proofs.refused.scan_rest.Goals as goal

pub returns-clause-free : goal.returns-clause-free
returns-clause-free g c = serves_still (role_of c.args.shared.now.script.now c.args.number) c.args.passes.now c.scan_all.new.passes c.scan_all.ensures.free
