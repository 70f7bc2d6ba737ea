use Rattle.std.proofs.Common.{◌≡◌, length}
use Rattle.std.specs.List.{All}
use Rattle.std.specs.Vec.Iter.{into_iter_items, into_iter_len}
use Rattle.co_script.specs.Beside.{IsSection, IsSpot, left_read}
use Rattle.co_script.proofs.by_threads.read_around.Given as goal

-- what is left makes of the draft so far what all makes of the one before
abbrev pub invariant-loop-section : goal.invariant-loop-section
invariant-loop-section l = record {
  left : length (into_iter_items l.section-iterator) ≡ into_iter_len l.section-iterator;
  sections : All (IsSection l.text l.frame) (into_iter_items l.section-iterator);
  spot : IsSpot l.text l.spot;
  same : left_read l.text l.fn.draft l.fn.from ≡ left_read l.text l.draft l.spot;
}
