-- A report is no longer than the limit: a longer input is refused, so one that is a report was read to its end.
use Rattle.std.proofs.Common.{◌≡◌, ℕ, ◌≤◌, Bool, true, false, List, length, refl, Ok, Result, arith}
use Rattle.std.specs.Prelude.{nat_le}
use Rattle.std.proofs.lemmas.Bool.Decides.{nat_tests}
use Rattle.co_text.specs.Fallible.{Refusal, ◌>>◌, unless, at_line}
use Rattle.co_text.specs.Lines.{lines_of}
use Rattle.co_text.specs.declared.cause.Cause.TheVariants.{Size}
use Rattle.co_report.specs.Reading.{report_read, lines_report}
use Rattle.co_report.specs.declared.line.Report.{Report}
use Rattle.co_view_top.specs.Headline.{limit}

module _ {X : Type 0} (most : ℕ) (bytes : List ℕ) (rest : Result X Refusal) where
  short_length : nat_le (length bytes) most ≡ true → length bytes ≤ most
  short_length h = grind (arith, nat_tests)

  short : (x : X) (test : Bool) → nat_le (length bytes) most ≡ test → (at_line 0 (unless test Size) >> rest) ≡ Ok x → length bytes ≤ most
  short x true test read = short_length test
  short x false test read = cc

pub report_short : (bytes : List ℕ) (r : Report) → report_read bytes ≡ Ok r → length bytes ≤ limit
unfolding report_read
report_short bytes r is = short limit bytes (lines_report (lines_of bytes)) r (nat_le (length bytes) limit) refl is
