-- A text is line by line the same as itself.
use Rattle.std.proofs.Common.{◌≡◌, ℕ, ◌+◌, true, List, [], ◌∷◌, refl, ap, sym, ◌∙◌}
use Rattle.std.specs.Prelude.{Ok}
use Rattle.std.proofs.lemmas.Slice.Eq.{bytes_eq-Decides}
use Rattle.co_text.specs.Fallible.{◌>>◌, at_line, unless}
use Rattle.co_text.specs.Lines.{Line, lines_of}
use Rattle.co_text.specs.declared.cause.Cause.TheVariants as cause
use Rattle.co_report.specs.Reading.{same_lines}

pub lines-same : (k : ℕ) (ls : List Line) → same_lines k ls ls ≡ Ok true
lines-same k [] = refl
lines-same k (l ∷ ls) = ap (λ b. at_line k (unless b cause.Form) >> same_lines (k + 1) ls ls) ((bytes_eq-Decides l.bytes l.bytes).1 refl) ∙ lines-same (k + 1) ls

pub texts_same : (text wanted : List ℕ) → text ≡ wanted → same_lines 2 (lines_of text) (lines_of wanted) ≡ Ok true
texts_same text wanted is = ap (λ ws. same_lines 2 (lines_of text) (lines_of ws)) (sym is) ∙ lines-same 2 (lines_of text)
