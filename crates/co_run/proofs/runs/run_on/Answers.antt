-- The books that were just made have no notes and no room.
use Rattle.std.proofs.Common.{◌≡◌, ℕ, ◌<◌, ◌^◌, arith}
use Rattle.co_run.proofs.runs.run_on.Goals as goal

few : (spare : ℕ) → spare ≡ 0 → spare < 2 ^ 56
few spare none = omega (arith, none)

pub run_books-requires-clause-books : goal.run_books-requires-clause-books
run_books-requires-clause-books g c lives outlive = record {
  count = c.in-Ok.ensures.count;
  empty = λ k book at.
      let blank = c.in-Ok.ensures.blank k book at in
      record { nothing = blank.0; few = few book.spare blank.1 };
}
