use Rattle.std.proofs.Common.{◌≡◌, ◌≤◌, length}
use Rattle.std.specs.Vec.Iter.{into_iter_items, into_iter_len}
use Rattle.co_service.proofs.locked.open_desks.Given as goal

abbrev pub invariant-loop-locked : goal.invariant-loop-locked
invariant-loop-locked g l =
    record {
      left : length (into_iter_items l.locked-iterator) ≡ into_iter_len l.locked-iterator;
      spare : length (into_iter_items l.locked-iterator) ≤ l.room.spare;
    }
