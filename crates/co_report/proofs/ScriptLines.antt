-- The line at which a script is refused is one of its lines, or line 0.
use Rattle.std.proofs.Common.{◌≡◌, ℕ, suc, ◌+◌, ◌<◌, ◌≤◌, Bool, true, false, List, [], ◌∷◌, length, refl, ap, ◌∙◌, arith}
use Rattle.std.specs.Prelude.{Option, None, Result, Ok, Err, nat_le}
use Rattle.co_text.specs.Fallible.{◌>>=◌, ◌>>◌, unless, at_line, Refusal}
use Rattle.co_text.specs.Lines.{Line, lines_of, lines_behind, is_feed}
use Rattle.co_text.specs.declared.cause.Cause.{Cause}
use Rattle.co_text.specs.declared.cause.Cause.TheVariants.{Size}
use Rattle.co_script.specs.Drafts.{Draft}
use Rattle.co_script.specs.Reading.{script_of, lines_script, lines_read, line_read, text_end}
use Rattle.co_report.specs.Reading.{in_report}

behind-few : (b : Bool) (c : ℕ) (ls : List Line) → length (lines_behind b c ls) ≤ suc (length ls)
behind-few true c ls = omega arith
behind-few false c [] = omega arith
behind-few false c (l ∷ ls) = omega arith

pub lines-few : (bs : List ℕ) → length (lines_of bs) ≤ length bs
lines-few [] = omega arith
lines-few (c ∷ cs) = omega (arith, behind-few (is_feed c) c (lines_of cs), lines-few cs)

refused-in : (k : ℕ) (d : Option Draft) (ls : List Line) (r : Refusal) → lines_read k d ls ≡ Err r → r.line < k + length ls
refused-in k d [] r h = cc
refused-in k d (l ∷ ls) r h = go (line_read d l) (λ e. refused-in (k + 1) e ls r) h where
  go : (x : Result (Option Draft) Cause) → ((e : Option Draft) → lines_read (k + 1) e ls ≡ Err r → r.line < k + 1 + length ls) → (at_line k x >>= λ e. lines_read (k + 1) e ls) ≡ Err r → r.line < k + length (l ∷ ls)
  go (Ok e) later m = omega (arith, later e m)
  go (Err c) later m = let here : r.line ≡ k = cc in omega (arith, here)

at_zero : {X : Type 0} (x : Result X Cause) (r : Refusal) → at_line 0 x ≡ Err r → r.line ≡ 0
at_zero (Ok y) r h = cc
at_zero (Err c) r h = cc

refused-script : (ls : List Line) (r : Refusal) → lines_script ls ≡ Err r → r.line ≤ length ls
refused-script ls r h = go (lines_read 1 None ls) refl h where
  go : (x : Result (Option Draft) Refusal) → lines_read 1 None ls ≡ x → (x >>= λ d. at_line 0 (text_end d)) ≡ Err r → r.line ≤ length ls
  go (Ok d) e m = omega (arith, at_zero (text_end d) r m)
  go (Err q) e m = let same : q ≡ r = cc in omega (arith, refused-in 1 None ls r (e ∙ ap (λ z. Err z) same))

pub refused_line : (bs : List ℕ) (r : Refusal) → script_of bs ≡ Err r → r.line ≤ length bs
unfolding script_of
refused_line bs r h = go (nat_le (length bs) 67108864) h where
  go : (b : Bool) → (at_line 0 (unless b Size) >> lines_script (lines_of bs)) ≡ Err r → r.line ≤ length bs
  go true m = omega (arith, refused-script (lines_of bs) r m, lines-few bs)
  go false m = let here : r.line ≡ 0 = cc in omega (arith, here)

pub in_report-ok : {X : Type 0} (r : Result X Refusal) (x : X) → in_report r ≡ Ok x → r ≡ Ok x
in_report-ok (Ok y) x h = h
in_report-ok (Err c) x h = cc
