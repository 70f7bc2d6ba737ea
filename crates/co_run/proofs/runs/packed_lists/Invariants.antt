-- The lists so far are those of the books that were taken.
use Rattle.std.proofs.Common.{◌≡◌, ◌++◌, length, map}
use Rattle.std.specs.Vec.Iter.{into_iter_items, into_iter_len}
use Rattle.co_run.proofs.runs.packed_lists.Given as goal

abbrev pub invariant-loop-book : goal.invariant-loop-book
invariant-loop-book l =
    record {
      yields : l.yielded ++ into_iter_items l.book-iterator ≡ into_iter_items l.initial.book-iterator;
      left : length (into_iter_items l.book-iterator) ≡ into_iter_len l.book-iterator;
      lists : l.lists ≡ map (λ b. b.notes.items) l.yielded;
    }
