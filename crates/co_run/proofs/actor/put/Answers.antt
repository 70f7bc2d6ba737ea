-- The note stands last, and the room for it is spent.
use Rattle.std.proofs.Common.{rules}
use Rattle.co_run.proofs.actor.put.Goals as goal

pub returns-clause-notes : goal.returns-clause-notes
returns-clause-notes g c = search rules

pub returns-clause-spare : goal.returns-clause-spare
returns-clause-spare g c = search rules
