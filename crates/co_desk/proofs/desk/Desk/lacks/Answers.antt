-- The count stands still at the largest number that can be asked for, so it has fewer exactly where the journal has.
use Rattle.std.proofs.Common.{◌≡◌, ◌≤◌, ℕ, ap, ◌∙◌, arith}
use Rattle.std.specs.Prelude.{nat_lt}
use Rattle.std.proofs.lemmas.Bool.Decides.{nat_tests}
use Rattle.co_life.specs.Rule.{capped}
use Rattle.co_desk.specs.Books.{BooksView}
use Rattle.co_desk.specs.Desk.{scans_in}
use Rattle.co_desk.proofs.desk.Desk.lacks.Goals as goal

lacks_so : (count all scans : ℕ) → count ≡ capped all → scans ≤ 18446744073709551615 → nat_lt count scans ≡ nat_lt all scans
lacks_so count all scans is fits = grind (arith, nat_tests)

pub returns : goal.returns
returns g c =
    lacks_so c.self.inside.scans (scans_in c.self.inside.books.journal) c.args.scans c.self.invariant.counted (let n = c.ranges.scans in omega arith)
    ∙ ap (λ (b : BooksView). nat_lt (scans_in b.journal) c.args.scans) c.self.view_is
