use Rattle.std.proofs.Common.{◌≡◌, ◌++◌, length}
use Rattle.std.specs.Vec.Iter.{into_iter_items, into_iter_len}
use Rattle.co_script.specs.Joined.{AreJoined}
use Rattle.co_script.proofs.joining.joined.Given as goal

-- the first parts are joined, and the others are left
abbrev pub invariant-loop-part : goal.invariant-loop-part
invariant-loop-part g l = record {
  yields : l.yielded ++ into_iter_items l.part-iterator ≡ into_iter_items l.initial.part-iterator;
  left : length (into_iter_items l.part-iterator) ≡ into_iter_len l.part-iterator;
  joined : AreJoined l.yielded l.all;
}
