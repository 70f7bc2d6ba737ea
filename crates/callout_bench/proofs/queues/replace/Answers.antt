-- What was removed stands there no more.
use Rattle.std.proofs.Common.{◌∙◌, arith}
use Rattle.co_queue.proofs.Gone.{gone}
use Rattle.callout_bench.proofs.queues.replace.Goals as goal

pub insert-requires-clause-absent : goal.insert-requires-clause-absent
insert-requires-clause-absent g c = gone _ _ c.args.i _ c.remove-found.ensures

pub insert-requires-clause-below : goal.insert-requires-clause-below
insert-requires-clause-below g c = omega (arith, c.remove-found.ensures.size, c.requires)

pub returns : goal.returns
returns g c = c.insert.ensures.size ∙ c.remove-found.ensures.size
