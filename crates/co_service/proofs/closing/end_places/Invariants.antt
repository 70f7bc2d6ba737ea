use Rattle.std.proofs.Common.{◌≡◌, ◌≤◌, ◌++◌, length, map}
use Rattle.std.specs.Vec.Iter.{into_iter_items, into_iter_len}
use Rattle.co_service.specs.Closing.{EndEach}
use Rattle.co_desk.specs.Lines.{made}
use Rattle.co_service.proofs.closing.end_places.Given as goal

abbrev pub invariant-loop-life : goal.invariant-loop-life
invariant-loop-life g l =
    record {
      yields : l.yielded ++ into_iter_items l.life-iterator ≡ into_iter_items l.initial.life-iterator;
      left : length (into_iter_items l.life-iterator) ≡ into_iter_len l.life-iterator;
      at : l.i ≡ length l.yielded;
      passes : l.passes.items ≡ l.initial.passes.items;
      count : length l.room.items ≡ l.i;
      spare : length (into_iter_items l.life-iterator) ≤ l.room.spare;
      ends : EndEach g.S.Kind.kind l.initial.passes.items (map made l.room.items);
    }
