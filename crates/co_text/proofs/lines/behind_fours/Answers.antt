use Rattle.std.proofs.Common.{refl}
use Rattle.co_text.proofs.Contents.{left-step}
use Rattle.co_text.proofs.lines.behind_fours.Goals as goal

pub loop-rest-preserved : goal.loop-rest-preserved
loop-rest-preserved c = left-step _ c.loop-rest.rest.now _ _ _ _ _ c.loop-rest.invariant c.in-len4-up.len_at_least refl
    c.stops.ensures c.stops-in-len4-up.ensures c.stops-in-len4-up-2.ensures c.stops-in-len4-up-3.ensures c.if-stops.false
