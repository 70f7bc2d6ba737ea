-- The books so far are empty.
use Rattle.std.proofs.Common.{◌≡◌, length}
use Rattle.co_run.specs.Jobs.{AreEmptyBooks}
use Rattle.run_cases.proofs.tests.waits.told_books.Given as goal

abbrev pub invariant-loop-told : goal.invariant-loop-told
invariant-loop-told g l = record {
  count : length l.books ≡ l.told-index;
  empty : AreEmptyBooks (λ b. b.book.book.notes.items) (λ b. b.book.book.spare) l.books;
}
