use Rattle.std.proofs.Common.{length, ap, arith}
use Rattle.co_service.proofs.locked.open_desks.Goals as goal

pub push-requires : goal.push-requires
push-requires g c = let room = c.loop-locked.invariant.spare in let short = ap length c.in-Some.ensures.steps.0 in omega arith
