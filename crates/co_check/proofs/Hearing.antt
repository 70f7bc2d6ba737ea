-- One line more is heard: what is the first bad one, and what is said of each.
use Rattle.std.proofs.Common.{◌≡◌, ◌+◌, ◌≤◌, List, [], ◌∷◌, ◌++◌, length, map, refl, ap, sym, ◌∙◌, append_assoc, append-nil, arith}
use Rattle.std.specs.Prelude.{Option, Some, None}
use Rattle.std.proofs.lemmas.List.{length-append}
use Rattle.co_program.specs.declared.script.Script.{Script}
use Rattle.co_report.specs.declared.line.Line.{Line}
use Rattle.co_check.specs.declared.verdict.Unfit.{Unfit}
use Rattle.co_check.specs.Astray.{SeenLine, seen_at, seen_from, seen_lines}
use Rattle.co_check.specs.Facts.{Fact}
use Rattle.co_check.specs.Lines.{AreLinesOf, IsLineOf, lines_max}
use Rattle.co_check.specs.Replay.{Bad, bad_or, first_bad, first_unfit, unfit_at}
use Rattle.co_check.specs.Replayed.{fact_of}

-- ---- the first bad line

module _ (wrong : List Line → Line → Option Unfit) (l : Line) where
  first-last-at : (above xs : List Line) (x : Line) (rest : first_bad wrong (above ++ x ∷ []) xs ≡ None → first_bad wrong (above ++ x ∷ []) (xs ++ l ∷ []) ≡ bad_or (wrong ((above ++ x ∷ []) ++ xs) l) l.line None)
      → (o : Option Unfit) → wrong above x ≡ o → bad_or o x.line (first_bad wrong (above ++ x ∷ []) xs) ≡ None → first_bad wrong above (x ∷ xs ++ l ∷ []) ≡ bad_or (wrong (above ++ x ∷ xs) l) l.line None
  first-last-at above xs x rest (Some cause) is h = cc
  first-last-at above xs x rest None is h =
      ap (λ o. bad_or o x.line (first_bad wrong (above ++ x ∷ []) (xs ++ l ∷ []))) is
      ∙ (rest h ∙ ap (λ ys. bad_or (wrong ys l) l.line None) (append_assoc above (x ∷ []) xs))

  -- none before, so it is this one or none
  pub first-last : (above xs : List Line) → first_bad wrong above xs ≡ None → first_bad wrong above (xs ++ l ∷ []) ≡ bad_or (wrong (above ++ xs) l) l.line None
  first-last above [] none = ap (λ ys. bad_or (wrong ys l) l.line None) (sym (append-nil above))
  first-last above (x ∷ xs) none = first-last-at above xs x (first-last (above ++ x ∷ []) xs) (wrong above x) refl none

  first-stays-at : (above xs : List Line) (x : Line) (b : Bad) (rest : first_bad wrong (above ++ x ∷ []) xs ≡ Some b → first_bad wrong (above ++ x ∷ []) (xs ++ l ∷ []) ≡ Some b)
      → (o : Option Unfit) → wrong above x ≡ o → bad_or o x.line (first_bad wrong (above ++ x ∷ []) xs) ≡ Some b → first_bad wrong above (x ∷ xs ++ l ∷ []) ≡ Some b
  first-stays-at above xs x b rest (Some cause) here h = ap (λ o. bad_or o x.line (first_bad wrong (above ++ x ∷ []) (xs ++ l ∷ []))) here ∙ h
  first-stays-at above xs x b rest None here h = ap (λ o. bad_or o x.line (first_bad wrong (above ++ x ∷ []) (xs ++ l ∷ []))) here ∙ rest h

  -- the first one stays
  pub first-stays : (above xs : List Line) (b : Bad) → first_bad wrong above xs ≡ Some b → first_bad wrong above (xs ++ l ∷ []) ≡ Some b
  first-stays above [] b is = cc
  first-stays above (x ∷ xs) b is = first-stays-at above xs x b (first-stays (above ++ x ∷ []) xs b) (wrong above x) refl is

abbrev unfit : Script → List Line → Line → Option Unfit
unfit s above l = unfit_at s above l.place l.entry

pub still-fit : (s : Script) (lines : List Line) (l : Line) → first_unfit s lines ≡ None → unfit_at s lines l.place l.entry ≡ None → first_unfit s (lines ++ l ∷ []) ≡ None
still-fit s lines l none fine = first-last (unfit s) l [] lines none ∙ ap (λ o. bad_or o l.line None) fine

pub now-bad : (s : Script) (lines : List Line) (l : Line) (cause : Unfit) → first_unfit s lines ≡ None → unfit_at s lines l.place l.entry ≡ Some cause
    → first_unfit s (lines ++ l ∷ []) ≡ Some (record { line = l.line; cause = cause })
now-bad s lines l cause none bad = first-last (unfit s) l [] lines none ∙ ap (λ o. bad_or o l.line None) bad

pub still-bad : (s : Script) (lines : List Line) (l : Line) (b : Bad) → first_unfit s lines ≡ Some b → first_unfit s (lines ++ l ∷ []) ≡ Some b
still-bad s lines l b is = first-stays (unfit s) l [] lines b is

-- ---- what is said of each

seen-more : (s : Script) (above xs : List Line) (l : Line) → seen_from s above (xs ++ l ∷ []) ≡ seen_from s above xs ++ seen_at s (above ++ xs) l ∷ []
seen-more s above [] l = ap (λ ys. seen_at s ys l ∷ []) (sym (append-nil above))
seen-more s above (x ∷ xs) l =
    ap (λ zs. seen_at s above x ∷ zs) (seen-more s (above ++ x ∷ []) xs l)
    ∙ ap (λ ys. seen_at s above x ∷ seen_from s (above ++ x ∷ []) xs ++ seen_at s ys l ∷ []) (append_assoc above (x ∷ []) xs)

said-more : (xs : List SeenLine) (x : SeenLine) → map fact_of (xs ++ x ∷ []) ≡ map fact_of xs ++ fact_of x ∷ []
said-more [] x = refl
said-more (y ∷ ys) x = ap (λ fs. fact_of y ∷ fs) (said-more ys x)

pub facts-more : (s : Script) (lines : List Line) (l : Line) (facts : List Fact) (fact : Fact) → facts ≡ map fact_of (seen_lines s lines) → fact ≡ fact_of (seen_at s lines l)
    → facts ++ fact ∷ [] ≡ map fact_of (seen_lines s (lines ++ l ∷ []))
facts-more s lines l facts fact are is =
    ap (λ fs. fs ++ fact ∷ []) are
    ∙ (ap (λ f. map fact_of (seen_lines s lines) ++ f ∷ []) is
    ∙ sym (ap (map fact_of) (seen-more s [] lines l) ∙ said-more (seen_lines s lines) (seen_at s lines l)))

-- ---- lines as a report has them

pub lines-more : (s : Script) (xs : List Line) (l : Line) → AreLinesOf s xs → IsLineOf s l → AreLinesOf s (xs ++ l ∷ [])
lines-more s [] l h is = (is, tt)
lines-more s (x ∷ xs) l h is = (h.0, lines-more s xs l h.1 is)

pub lines-before : (s : Script) (xs : List Line) (l : Line) → AreLinesOf s (xs ++ l ∷ []) → AreLinesOf s xs × IsLineOf s l
lines-before s [] l h = (tt, h.0)
lines-before s (x ∷ xs) l h = let rest = lines-before s xs l h.1 in ((h.0, rest.0), rest.1)

pub longer : (xs : List Line) (l : Line) → length (xs ++ l ∷ []) ≡ length xs + 1
longer xs l = length-append xs (l ∷ [])

-- what was bad stays so
pub bad-on : (s : Script) (lines : List Line) (l : Line) (b : Bad) → (AreLinesOf s lines → length lines ≤ lines_max → first_unfit s lines ≡ Some b)
    → AreLinesOf s (lines ++ l ∷ []) → length (lines ++ l ∷ []) ≤ lines_max → first_unfit s (lines ++ l ∷ []) ≡ Some b
bad-on s lines l b is of few = still-bad s lines l b (is (lines-before s lines l of).0 (omega (arith, few, longer lines l)))
