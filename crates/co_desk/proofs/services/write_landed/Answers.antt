use Rattle.std.proofs.Common.{rules}
use Rattle.co_desk.proofs.services.write_landed.Goals as goal

pub returns-clause-written : goal.returns-clause-written
returns-clause-written g c = search rules
