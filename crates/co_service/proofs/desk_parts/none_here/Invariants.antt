use Rattle.std.proofs.Common.{◌≡◌, replicate}
use Rattle.co_service.proofs.FirstKeepers.{away}
use Rattle.co_service.proofs.desk_parts.none_here.Given as goal

abbrev pub invariant-loop-at : goal.invariant-loop-at
invariant-loop-at l = l.here.items ≡ replicate l._at away
