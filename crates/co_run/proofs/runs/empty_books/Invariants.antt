-- The books so far are empty.
use Rattle.std.proofs.Common.{◌≡◌, length}
use Rattle.co_run.specs.Jobs.{AreBlank}
use Rattle.co_run.proofs.runs.empty_books.Given as goal

abbrev pub invariant-loop-made : goal.invariant-loop-made
invariant-loop-made g l = record {
  count : length l.books ≡ l.made;
  blank : AreBlank l.books;
}
