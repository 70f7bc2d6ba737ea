-- What was removed stands there no more.
use Rattle.std.proofs.Common.{◌∙◌, arith}
use Rattle.co_queue.proofs.Gone.{gone}
use Rattle.object_cases.proofs.tests.queues.replace.Goals as goal

pub insert-at-requires-clause-absent : goal.insert-at-requires-clause-absent
insert-at-requires-clause-absent g c = gone _ _ c.args.i _ c.remove-found.ensures

pub insert-at-requires-clause-below : goal.insert-at-requires-clause-below
insert-at-requires-clause-below g c = omega (arith, c.remove-found.ensures.size, c.requires)

pub returns : goal.returns
returns g c = c.insert-at.ensures.size ∙ c.remove-found.ensures.size
