use Rattle.std.proofs.Common.{◌≡◌, ◌++◌, length, map}
use Rattle.std.specs.Vec.Iter.{into_iter_items, into_iter_len}
use Rattle.co_service.proofs.FirstKeepers.{kept}
use Rattle.co_service.proofs.desk_parts.all_here.Given as goal

abbrev pub invariant-loop-keeper : goal.invariant-loop-keeper
invariant-loop-keeper l =
    record {
      yields : l.yielded ++ into_iter_items l.keeper-iterator ≡ into_iter_items l.initial.keeper-iterator;
      left : length (into_iter_items l.keeper-iterator) ≡ into_iter_len l.keeper-iterator;
      here : l.here.items ≡ map kept l.yielded;
    }
