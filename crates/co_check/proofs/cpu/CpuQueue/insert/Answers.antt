-- What was removed stands there no more, so it may be inserted.
use Rattle.co_queue.proofs.Gone.{gone}
use Rattle.co_check.proofs.cpu.CpuQueue.insert.Goals as goal

pub insert-at-requires-clause-absent : goal.insert-at-requires-clause-absent
insert-at-requires-clause-absent c = gone _ _ c.args.i _ c.remove-found.ensures
