-- The notes that an actor's slots name are the actor's notes, in order of their numbers.
use Rattle.std.proofs.Common.{◌≡◌, ℕ, zero, suc, ◌+◌, ◌<◌, ◌≤◌, Bool, true, false, cond, List, [], ◌∷◌, ◌++◌, length, refl, ap, sym, ◌∙◌, arith}
use Rattle.std.specs.Prelude.{Option, Some, slice_get, option_and_then}
use Rattle.std.specs.List.{cons_option, filter_map, find, range_with_len}
use Rattle.std.proofs.lemmas.List.Sums.{count_by-le-length}
use Rattle.std.proofs.lemmas.Option.{slice_get_within}
use Rattle.co_program.specs.declared.script.Script.{Script}
use Rattle.co_report.specs.declared.line.Line.{Line}
use Rattle.co_check.specs.Astray.{SeenLine, seen_at, seen_from, seen_lines, note_numbered, lines_numbered, by_actor}
use Rattle.co_check.specs.Index.{index_of, note_slot, AreActorSlots}
use Rattle.co_check.specs.Lines.{lines_max}
use Rattle.co_check.specs.Numbers.{lines_made_by}
use Rattle.co_check.specs.Shown.{is_by, is_note}
use Rattle.co_check.specs.Walked.{by_row}
use Rattle.co_check.proofs.Numbering.{index-read}
use Rattle.co_check.proofs.Taking.{some-is}

-- the first line of some kind is found where its index says
found : (s : Script) (p : Line → Bool) (whole : List SeenLine) (above lines : List Line) (at : ℕ) → ((k : ℕ) → slice_get whole (at + k) ≡ slice_get (seen_from s above lines) k)
    → option_and_then (slice_get whole) (index_of p at lines) ≡ find (λ x. p x.line) (seen_from s above lines)
found s p whole above [] at same = refl
found s p whole above (l ∷ ls) at same = at_test (p l) (found s p whole (above ++ l ∷ []) ls (at + 1) (λ k. ap (slice_get whole) (shifted at k) ∙ same (suc k))) where
  shifted : (m k : ℕ) → m + 1 + k ≡ m + suc k
  shifted m k = omega arith

  at_test : (b : Bool) → option_and_then (slice_get whole) (index_of p (at + 1) ls) ≡ find (λ x. p x.line) (seen_from s (above ++ l ∷ []) ls)
      → option_and_then (slice_get whole) (cond {A = Option ℕ} b (Some at) (index_of p (at + 1) ls)) ≡ cond {A = Option SeenLine} b (Some (seen_at s above l)) (find (λ x. p x.line) (seen_from s (above ++ l ∷ []) ls))
  at_test true rest = ap (slice_get whole) (unshifted at) ∙ same zero where
    unshifted : (m : ℕ) → m ≡ m + zero
    unshifted m = omega arith
  at_test false rest = rest

pub note-found : (s : Script) (lines : List Line) (a k : ℕ) → option_and_then (slice_get (seen_lines s lines)) (note_slot lines a k) ≡ note_numbered (seen_lines s lines) a k
note-found s lines a k = found s (is_note a k) (seen_lines s lines) [] lines 0 (λ j. ap (slice_get (seen_lines s lines)) (start j)) where
  start : (j : ℕ) → 0 + j ≡ j
  start j = omega arith

-- a list of what a function gives of each number
mapped : {X Y : Type 0} (h : X → Option Y) (f : ℕ → X) (from : ℕ) (row : List X) → ((k : ℕ) → k < length row → slice_get row k ≡ Some (f (from + k))) → filter_map h row ≡ filter_map (λ k. h (f k)) (range_with_len from (length row))
mapped h f from [] each = refl
mapped h f from (x ∷ xs) each =
    let rest = mapped h f (from + 1) xs (λ k below. each (suc k) (omega arith) ∙ ap (λ n. Some (f n)) (shifted from k)) in
    ap (λ o. cons_option o (filter_map h xs)) (ap h (first (each zero (omega arith)))) ∙ ap (cons_option (h (f from))) rest where
      shifted : (m k : ℕ) → m + suc k ≡ m + 1 + k
      shifted m k = omega arith

      first : Some x ≡ Some (f (from + zero)) → x ≡ f from
      first e = some-is x (f (from + zero)) e ∙ ap f (unshifted from) where
        unshifted : (m : ℕ) → m + zero ≡ m
        unshifted m = omega arith

same-map : {X Y : Type 0} (h g : X → Option Y) (xs : List X) → ((x : X) → h x ≡ g x) → filter_map h xs ≡ filter_map g xs
same-map h g [] same = refl
same-map h g (x ∷ xs) same = ap (λ o. cons_option o (filter_map h xs)) (same x) ∙ ap (cons_option (g x)) (same-map h g xs same)

pub row-by-actor : (s : Script) (lines : List Line) (a : ℕ) (row : List (Option ℕ)) → AreActorSlots lines lines a row → by_row (seen_lines s lines) row ≡ by_actor s lines a
row-by-actor s lines a row h =
    mapped (λ slot. option_and_then (slice_get (seen_lines s lines)) slot) (note_slot lines a) 0 row
    (λ k below. h.each k (omega (arith, below, h.count)) ∙ ap (λ n. Some (note_slot lines a n)) (start k))
    ∙ (same-map (λ k. option_and_then (slice_get (seen_lines s lines)) (note_slot lines a k)) (note_numbered (seen_lines s lines) a) (range_with_len 0 (length row)) (note-found s lines a)
    ∙ ap (lines_numbered (seen_lines s lines) a) h.count) where
      start : (k : ℕ) → k ≡ 0 + k
      start k = omega arith

-- each slot names a line
pub slot-within : (lines : List Line) (a : ℕ) (row : List (Option ℕ)) → AreActorSlots lines lines a row → (k i : ℕ) → slice_get row k ≡ Some (Some i) → i < length lines
slot-within lines a row h k i here =
    let below : k < lines_made_by a lines = omega (arith, slice_get_within row k (Some i) here, h.count) in
    then (index-read (is_note a k) 0 i lines (some-is (note_slot lines a k) (Some i) (sym (h.each k below) ∙ here))) where
      then : (x : Line) × (j : ℕ) × (i ≡ 0 + j) × (slice_get lines j ≡ Some x) × (is_note a k x ≡ true) → i < length lines
      then r = omega (arith, r.2, slice_get_within lines r.1 r.0 r.3)

pub row-few : (lines : List Line) (a : ℕ) (row : List (Option ℕ)) → AreActorSlots lines lines a row → length lines ≤ lines_max → length row ≤ lines_max
row-few lines a row h few = omega (arith, h.count, count_by-le-length (is_by a) lines)
