-- Going along the lines: those above one more, and those that are left.
use Rattle.std.proofs.Common.{◌≡◌, ◌≢◌, ℕ, zero, suc, ◌+◌, ◌<◌, List, [], ◌∷◌, ◌++◌, map, length, take, drop, ap, sym, ◌∙◌, add-one, arith}
use Rattle.std.specs.Prelude.{Option, Some, None, slice_get}
use Rattle.std.proofs.Math.Seq.{drop-cons}
use Rattle.std.proofs.lemmas.List.{take_more}
use Rattle.std.proofs.lemmas.Option.{slice_get_within, get_or_from_slice_get}
use Rattle.co_object.specs.declared.note.Note.{Note}
use Rattle.co_report.specs.declared.line.Line.{Line}
use Rattle.co_report.specs.PackedLines.{line_of, note_from_line}
use Rattle.co_check.specs.declared.verdict.Unfit.{Unfit}
use Rattle.co_check.specs.Replay.{bad_or, first_bad}

pub front : {X : Type 0} (xs : List X) (k : ℕ) (x : X) → slice_get xs k ≡ Some x → take (k + 1) xs ≡ take k xs ++ x ∷ []
front xs k x h = take_more xs k x (slice_get_within xs k x h) ∙ ap (λ y. take k xs ++ y ∷ []) (get_or_from_slice_get xs k x x h)

pub back : {X : Type 0} (xs : List X) (k : ℕ) (x : X) → slice_get xs k ≡ Some x → drop k xs ≡ x ∷ drop (k + 1) xs
back xs k x h = drop-cons xs k x (slice_get_within xs k x h) ∙ (ap (λ y. y ∷ drop (suc k) xs) (get_or_from_slice_get xs k x x h) ∙ ap (λ n. x ∷ drop n xs) (sym (add-one k)))

-- ---- a pass over the notes

-- one is ahead where there is a line
pub some-ahead : {notes : List Note} (lines : List Line) (k : ℕ) → k < length lines → notes ≡ map note_from_line (drop k lines) → notes ≢ []
some-ahead lines k h ahead none = left lines k h (sym ahead ∙ none) where
  left : (lines : List Line) (k : ℕ) → k < length lines → map note_from_line (drop k lines) ≢ []
  left [] k h = absurd (omega (arith, h))
  left (l ∷ ls) zero h = λ none. cc
  left (l ∷ ls) (suc k) h = left ls k (omega (arith, h))

-- the next one is that of the line, and behind it are those of the lines that follow
pub line-ahead : {notes rest : List Note} {n : Note} (lines : List Line) (k : ℕ) → notes ≡ map note_from_line (drop k lines) → notes ≡ n ∷ rest →
    (line : ℕ) × (slice_get lines k ≡ Some (line_of line n)) × (rest ≡ map note_from_line (drop (k + 1) lines))
line-ahead {notes} {rest} {n} lines k ahead next = let x = from lines k (sym ahead ∙ next) in (x.0, x.1, x.2 ∙ ap (λ m. map note_from_line (drop m lines)) (sym (add-one k))) where
  from : (lines : List Line) (k : ℕ) → map note_from_line (drop k lines) ≡ n ∷ rest → (line : ℕ) × (slice_get lines k ≡ Some (line_of line n)) × (rest ≡ map note_from_line (drop (suc k) lines))
  from [] zero h = cc
  from [] (suc k) h = cc
  from (l ∷ ls) zero h = let first : note_from_line l ≡ n = cc in (l.line, ap (λ m. Some (line_of l.line m)) first, cc)
  from (l ∷ ls) (suc k) h = from ls k h

-- ---- the first line that is wrong

module _ (wrong : List Line → Line → Option Unfit) (lines : List Line) (k : ℕ) (x : Line) (here : slice_get lines k ≡ Some x) where
  from_here : first_bad wrong (take k lines) (drop k lines) ≡ bad_or (wrong (take k lines) x) x.line (first_bad wrong (take k lines ++ x ∷ []) (drop (k + 1) lines))
  from_here = ap (first_bad wrong (take k lines)) (back lines k x here)

  -- nothing is wrong with the line
  pub first-on : wrong (take k lines) x ≡ None → first_bad wrong (take k lines) (drop k lines) ≡ first_bad wrong (take (k + 1) lines) (drop (k + 1) lines)
  first-on fine =
      from_here
      ∙ (ap (λ o. bad_or o x.line (first_bad wrong (take k lines ++ x ∷ []) (drop (k + 1) lines))) fine
      ∙ ap (λ above. first_bad wrong above (drop (k + 1) lines)) (sym (front lines k x here)))

  -- something is
  pub first-at : (cause : Unfit) → wrong (take k lines) x ≡ Some cause → first_bad wrong (take k lines) (drop k lines) ≡ Some (record { line = x.line; cause = cause })
  first-at cause bad = from_here ∙ ap (λ o. bad_or o x.line (first_bad wrong (take k lines ++ x ∷ []) (drop (k + 1) lines))) bad
