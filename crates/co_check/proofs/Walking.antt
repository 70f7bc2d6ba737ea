-- An actor's notes beside its program: step by step, and the steps without a note.
use Rattle.std.proofs.Common.{◌≡◌, ℕ, zero, suc, ◌+◌, ◌-◌, ◌<◌, true, false, cond, List, [], ◌∷◌, ◌++◌, length, map, drop, refl, ap, sym, ◌∙◌, arith}
use Rattle.std.specs.Prelude.{Option, Some, slice_get}
use Rattle.std.specs.List.{cons_option}
use Rattle.std.specs.Option.{option_map}
use Rattle.std.proofs.lemmas.Option.{slice_get-map}
use Rattle.co_program.specs.declared.action.Action.{Action as ActionAt}
use Rattle.co_program.specs.declared.script.Script.{Script}
use Rattle.co_program.specs.Action.{action_for}
use Rattle.co_program.specs.declared.cursor.Cursor.{Cursor as CursorAt}
use Rattle.co_program.specs.Cursor.{Cursor}
use Rattle.co_program.specs.Indexed.{cursor_of}
use Rattle.co_program.specs.Follows.{past, at_next_note}
use Rattle.co_report.specs.declared.line.Line.{Line}
use Rattle.co_check.specs.Facts.{Fact}
use Rattle.co_check.specs.Astray.{SeenLine, seen_at, seen_from, seen_lines, is_next_note, goes_on, first_astray, cursor_after_lines}
use Rattle.co_check.specs.Replayed.{fact_of}
use Rattle.co_check.specs.Walked.{by_row, IsQuietStep, IsNoteWalked}
use Rattle.co_check.proofs.Along.{back}
use Rattle.co_check.proofs.Taking.{some-is}

-- ---- a note

module _ (s : Script) (a : ℕ) (c : Cursor) (x : SeenLine) (xs : List SeenLine) where
  pub astray-on : is_next_note s a (at_next_note s a c) x ≡ true → first_astray s a c (x ∷ xs) ≡ first_astray s a (goes_on s (at_next_note s a c) x) xs
  astray-on h = ap (λ b. cond {A = Option ℕ} b (first_astray s a (goes_on s (at_next_note s a c) x) xs) (Some x.line.line)) h

  pub astray-at : is_next_note s a (at_next_note s a c) x ≡ false → first_astray s a c (x ∷ xs) ≡ Some x.line.line
  astray-at h = ap (λ b. cond {A = Option ℕ} b (first_astray s a (goes_on s (at_next_note s a c) x) xs) (Some x.line.line)) h

-- ---- the notes of a row

pub row-on : (notes : List SeenLine) (row : List (Option ℕ)) (k i : ℕ) (x : SeenLine) → slice_get row k ≡ Some (Some i) → slice_get notes i ≡ Some x → by_row notes (drop k row) ≡ x ∷ by_row notes (drop (k + 1) row)
row-on notes row k i x here there =
    ap (by_row notes) (back row k (Some i) here) ∙ ap (λ o. cons_option o (by_row notes (drop (k + 1) row))) there

-- ---- what is said of a line

length-seen : (s : Script) (above lines : List Line) → length (seen_from s above lines) ≡ length lines
length-seen s above [] = refl
length-seen s above (l ∷ ls) = ap suc (length-seen s (above ++ l ∷ []) ls)

read-from : (s : Script) (above lines : List Line) (i : ℕ) (l : Line) → slice_get lines i ≡ Some l → (x : SeenLine) × (slice_get (seen_from s above lines) i ≡ Some x) × (x.line ≡ l)
read-from s above [] i l h = cc
read-from s above (x ∷ xs) zero l h = (seen_at s above x, refl, some-is x l h)
read-from s above (x ∷ xs) (suc i) l h = read-from s (above ++ x ∷ []) xs i l h

-- a line with its fact is one that is seen
pub read-seen : (s : Script) (lines : List Line) (facts : List Fact) (i : ℕ) (l : Line) (f : Fact) → facts ≡ map fact_of (seen_lines s lines) → slice_get lines i ≡ Some l → slice_get facts i ≡ Some f
    → slice_get (seen_lines s lines) i ≡ Some (record { line = l; listed = f.listed; scans = f.scans })
read-seen s lines facts i l f facts_are line_is fact_is = then (read-from s [] lines i l line_is) where
  then : (x : SeenLine) × (slice_get (seen_lines s lines) i ≡ Some x) × (x.line ≡ l) → slice_get (seen_lines s lines) i ≡ Some (record { line = l; listed = f.listed; scans = f.scans })
  then (x, at, is) =
      let fact : fact_of x ≡ f = some-is (fact_of x) f (sym (ap (option_map fact_of) at) ∙ (sym (slice_get-map fact_of (seen_lines s lines) i) ∙ (ap (λ fs. slice_get fs i) (sym facts_are) ∙ fact_is))) in
      at ∙ ap Some (ap (λ (y : Line). record { line = y; listed = x.listed; scans = x.scans }) is ∙ ap (λ (g : Fact). record { line = l; listed = g.listed; scans = g.scans }) fact)

pub few-facts : (s : Script) (lines : List Line) (facts : List Fact) → facts ≡ map fact_of (seen_lines s lines) → length facts ≡ length lines
few-facts s lines facts h = ap length h ∙ (length-mapped fact_of (seen_lines s lines) ∙ length-seen s [] lines) where
  length-mapped : {X Y : Type 0} (f : X → Y) (xs : List X) → length (map f xs) ≡ length xs
  length-mapped f [] = refl
  length-mapped f (x ∷ xs) = ap suc (length-mapped f xs)

-- ---- steps without a note

module _ (s : Script) (a : ℕ) where
  -- the first of them, and one more
  pub settle-first : (c : CursorAt) (left : ℕ) → left ≡ length (cursor_of s a c).left → past s a (left + 1 - 0) (cursor_of s a c) (action_for s a (cursor_of s a c)) ≡ at_next_note s a (cursor_of s a c)
  settle-first c left h = ap (λ n. past s a n (cursor_of s a c) (action_for s a (cursor_of s a c))) (all left (length (cursor_of s a c).left) h) where
    all : (m n : ℕ) → m ≡ n → m + 1 - 0 ≡ suc n
    all m n h = omega arith

  pub settle-next : (at to : CursorAt) (steps k : ℕ) (end : Cursor) (action : ActionAt) → k < steps → IsQuietStep s a at true action to → past s a (steps - k) (cursor_of s a at) (action_for s a (cursor_of s a at)) ≡ end
      → past s a (steps - (k + 1)) (cursor_of s a to) (action_for s a (cursor_of s a to)) ≡ end
  settle-next at to steps k end action below quiet h =
      sym (quiet (steps - (k + 1))) ∙ (ap (λ n. past s a n (cursor_of s a at) (action_for s a (cursor_of s a at))) (one_less steps k below) ∙ h) where
        one_less : (n k : ℕ) → k < n → suc (n - (k + 1)) ≡ n - k
        one_less n k h = omega arith

-- ---- the loop over a row

-- the notes of a row from one on, from a place in the program
module _ (s : Script) (a : ℕ) (lines : List Line) (facts : List Fact) (row : List (Option ℕ)) (k i : ℕ) (c : CursorAt) (l : Line) (f : Fact)
    (facts_are : facts ≡ map fact_of (seen_lines s lines)) (here : slice_get row k ≡ Some (Some i)) (line_is : slice_get lines i ≡ Some l) (fact_is : slice_get facts i ≡ Some f) where
  abbrev note : SeenLine
  note = record { line = l; listed = f.listed; scans = f.scans }

  row_is : by_row (seen_lines s lines) (drop k row) ≡ note ∷ by_row (seen_lines s lines) (drop (k + 1) row)
  row_is = row-on (seen_lines s lines) row k i note here (read-seen s lines facts i l f facts_are line_is fact_is)

  pub walked-on : (to : CursorAt) → IsNoteWalked s a c note true to →
      (first_astray s a (cursor_of s a c) (by_row (seen_lines s lines) (drop k row)) ≡ first_astray s a (cursor_of s a to) (by_row (seen_lines s lines) (drop (k + 1) row)))
      × (cursor_after_lines s a (cursor_of s a c) (by_row (seen_lines s lines) (drop k row)) ≡ cursor_after_lines s a (cursor_of s a to) (by_row (seen_lines s lines) (drop (k + 1) row)))
  walked-on to h = (
    ap (first_astray s a (cursor_of s a c)) row_is
        ∙ (astray-on s a (cursor_of s a c) note (by_row (seen_lines s lines) (drop (k + 1) row)) h.0
        ∙ ap (λ (x : Cursor). first_astray s a x (by_row (seen_lines s lines) (drop (k + 1) row))) (sym h.1)),
    ap (cursor_after_lines s a (cursor_of s a c)) row_is ∙ ap (λ (x : Cursor). cursor_after_lines s a x (by_row (seen_lines s lines) (drop (k + 1) row))) (sym h.1),
  )

  pub walked-off : (to : CursorAt) → IsNoteWalked s a c note false to → first_astray s a (cursor_of s a c) (by_row (seen_lines s lines) (drop k row)) ≡ Some l.line
  walked-off to h = ap (first_astray s a (cursor_of s a c)) row_is ∙ astray-at s a (cursor_of s a c) note (by_row (seen_lines s lines) (drop (k + 1) row)) h
