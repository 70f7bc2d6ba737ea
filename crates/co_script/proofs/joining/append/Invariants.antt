use Rattle.std.proofs.Common.{◌≡◌, ◌++◌, length}
use Rattle.std.specs.Vec.Iter.{into_iter_items, into_iter_len}
use Rattle.co_script.proofs.joining.append.Given as goal

-- the first items are appended, and the others are left
abbrev pub invariant-loop-item : goal.invariant-loop-item
invariant-loop-item g l = record {
  yields : l.yielded ++ into_iter_items l.item-iterator ≡ into_iter_items l.initial.item-iterator;
  left : length (into_iter_items l.item-iterator) ≡ into_iter_len l.item-iterator;
  appended : l.items ≡ l.fn.items ++ l.yielded;
}
