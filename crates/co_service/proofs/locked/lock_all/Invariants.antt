use Rattle.std.proofs.Common.{◌≡◌, ◌++◌, length, vec_len}
use Rattle.std.specs.Vec.Iter.{into_iter_items, into_iter_len}
use Rattle.co_service.proofs.locked.lock_all.Given as goal

abbrev pub invariant-loop-parts : goal.invariant-loop-parts
invariant-loop-parts g l =
    record {
      yields : l.yielded ++ into_iter_items l.parts-iterator ≡ into_iter_items l.initial.parts-iterator;
      left : length (into_iter_items l.parts-iterator) ≡ into_iter_len l.parts-iterator;
      at : l.cpu ≡ length l.yielded;
      count : vec_len l.desks ≡ l.cpu;
    }
