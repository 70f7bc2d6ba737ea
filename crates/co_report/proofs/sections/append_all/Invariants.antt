use Rattle.std.proofs.Common.{◌≡◌, ◌++◌, length}
use Rattle.std.specs.List.{concat}
use Rattle.std.specs.Vec.Iter.{into_iter_items, into_iter_len}
use Rattle.co_report.proofs.sections.append_all.Given as goal

-- the texts of the first sections are appended, and the others are left
abbrev pub invariant-loop-page : goal.invariant-loop-page
invariant-loop-page l = record {
  yields : l.yielded ++ into_iter_items l.page-iterator ≡ into_iter_items l.initial.page-iterator;
  left : length (into_iter_items l.page-iterator) ≡ into_iter_len l.page-iterator;
  appended : concat l.pieces ≡ concat l.fn.pieces ++ concat l.yielded;
}
