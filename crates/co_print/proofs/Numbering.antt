-- The numbered notes of a place are its notes, and each note stands among those of its place with its number.
use Rattle.std.proofs.Common.{◌≡◌, ℕ, zero, suc, ◌+◌, ◌≤◌, Bool, true, false, cond, inl, inr, List, [], ◌∷◌, ◌++◌, map, refl, ap, subst, ◌∙◌, arith}
use Rattle.std.specs.Prelude.{Some, slice_get}
use Rattle.std.specs.List.{filter}
use Rattle.co_object.specs.declared.Note.{Note}
use Rattle.co_object.specs.declared.Place.{Place}
use Rattle.co_object.specs.Lists.{same_place, notes_of, all_notes_of}
use Rattle.co_object.proofs.Passing.{passing, passing-append}
use Rattle.co_print.specs.Histories.{Numbered, numbered_from, numbered_of, all_numbered_of}
use Rattle.co_print.specs.Origins.{note_at}
use Rattle.co_object.proofs.Members.{Has, has-left, has-right, has-filter}

abbrev pub note_of : Numbered → Note
note_of x = x.note

notes-numbered : (k : ℕ) (notes : List Note) → map note_of (numbered_from k notes) ≡ notes
notes-numbered k [] = refl
notes-numbered k (n ∷ ns) = ap (λ ms. n ∷ ms) (notes-numbered (k + 1) ns)

map-filter : (p : Note → Bool) (xs : List Numbered) → map note_of (filter (λ x. p x.note) xs) ≡ filter p (map note_of xs)
map-filter p [] = refl
map-filter p (x ∷ xs) = at_test (p x.note) (map-filter p xs) where
  at_test : (b : Bool) → map note_of (filter (λ x. p x.note) xs) ≡ filter p (map note_of xs) →
      map note_of (cond b (x ∷ filter (λ x. p x.note) xs) (filter (λ x. p x.note) xs)) ≡ cond b (x.note ∷ filter p (map note_of xs)) (filter p (map note_of xs))
  at_test true rest = ap (λ ms. x.note ∷ ms) rest
  at_test false rest = rest

notes-of : (p : Place) (notes : List Note) → map note_of (numbered_of p notes) ≡ notes_of p notes
notes-of p notes = map-filter (λ note. same_place note.place p) (numbered_from 0 notes) ∙ ap (λ ms. notes_of p ms) (notes-numbered 0 notes)

map-append : (xs ys : List Numbered) → map note_of (xs ++ ys) ≡ map note_of xs ++ map note_of ys
map-append [] ys = refl
map-append (x ∷ xs) ys = ap (λ ms. x.note ∷ ms) (map-append xs ys)

pub all-notes-of : (p : Place) (lists : List (List Note)) → map note_of (all_numbered_of p lists) ≡ all_notes_of p lists
all-notes-of p [] = refl
all-notes-of p (notes ∷ lists) =
    map-append (numbered_of p notes) (all_numbered_of p lists)
    ∙ (ap (λ ms. ms ++ map note_of (all_numbered_of p lists)) (notes-of p notes)
    ∙ ap (λ ms. notes_of p notes ++ ms) (all-notes-of p lists))

abbrev pub numbered : ℕ → Note → Numbered
numbered k n = record { number = k; note = n }

has-number : (k : ℕ) (notes : List Note) (i : ℕ) (n : Note) → slice_get notes i ≡ Some n → Has (numbered (k + i) n) (numbered_from k notes)
has-number k [] i n at = cc
has-number k (m ∷ ms) zero n at =
    let is : m ≡ n = cc in
    let first : k ≡ k + 0 = omega arith in
    inl (ap (λ j. numbered j m) first ∙ ap (numbered (k + 0)) is)
has-number k (m ∷ ms) (suc i) n at =
    let next : (k + 1) + i ≡ k + suc i = omega arith in
    inr (subst (λ j. Has (numbered j n) (numbered_from (k + 1) ms)) next (has-number (k + 1) ms i n at))

-- a note stands among those of its place
pub has-note : (p : Place) (lists : List (List Note)) (a k : ℕ) (n : Note) → note_at lists a k ≡ Some n → same_place n.place p ≡ true → Has (numbered k n) (all_numbered_of p lists)
has-note p [] a k n at here = cc
has-note p (notes ∷ lists) zero k n at here =
    let count : 0 + k ≡ k = omega arith in
    has-left (numbered k n) (numbered_of p notes) (all_numbered_of p lists)
    (has-filter (λ x. same_place x.note.place p) (numbered k n) (numbered_from 0 notes) here
    (subst (λ j. Has (numbered j n) (numbered_from 0 notes)) count (has-number 0 notes k n at)))
has-note p (notes ∷ lists) (suc a) k n at here = has-right (numbered k n) (numbered_of p notes) (all_numbered_of p lists) (has-note p lists a k n at here)

-- a note of a place that passes a test, and where it stands
pub record Found (p : Place) (test : Note → Bool) (lists : List (List Note)) : Type 0 where
  pub actor : ℕ
  pub number : ℕ
  pub note : Note
  pub at : note_at lists actor number ≡ Some note
  pub here : same_place note.place p ≡ true
  pub passes : test note ≡ true

record FoundIn (p : Place) (test : Note → Bool) (notes : List Note) : Type 0 where
  number : ℕ
  note : Note
  at : slice_get notes number ≡ Some note
  here : same_place note.place p ≡ true
  passes : test note ≡ true

found-in : (p : Place) (test : Note → Bool) (notes : List Note) → 1 ≤ passing test (notes_of p notes) → FoundIn p test notes
found-in p test [] some = absurd (omega (arith, some))
found-in p test (n ∷ ns) some = at_place (same_place n.place p) refl some (λ more. found-in p test ns more) where
  behind : FoundIn p test ns → FoundIn p test (n ∷ ns)
  behind f = record { number = suc f.number; note = f.note; at = f.at; here = f.here; passes = f.passes }

  at_test : (b : Bool) → same_place n.place p ≡ true → test n ≡ b → 1 ≤ cond b 1 0 + passing test (notes_of p ns) → (1 ≤ passing test (notes_of p ns) → FoundIn p test ns) → FoundIn p test (n ∷ ns)
  at_test true here is some rest = record { number = 0; note = n; at = refl; here = here; passes = is }
  at_test false here is some rest = behind (rest (omega (arith, some)))

  at_place : (b : Bool) → same_place n.place p ≡ b → 1 ≤ passing test (cond b (n ∷ notes_of p ns) (notes_of p ns)) → (1 ≤ passing test (notes_of p ns) → FoundIn p test ns) → FoundIn p test (n ∷ ns)
  at_place true here some rest = at_test (test n) here refl some rest
  at_place false here some rest = behind (rest some)

pub found : (p : Place) (test : Note → Bool) (lists : List (List Note)) → 1 ≤ passing test (all_notes_of p lists) → Found p test lists
found p test [] some = absurd (omega (arith, some))
found p test (notes ∷ lists) some = by_count (passing test (notes_of p notes)) refl (λ more. found p test lists more) where
  behind : Found p test lists → Found p test (notes ∷ lists)
  behind f = record { actor = suc f.actor; number = f.number; note = f.note; at = f.at; here = f.here; passes = f.passes }

  here_in : FoundIn p test notes → Found p test (notes ∷ lists)
  here_in f = record { actor = 0; number = f.number; note = f.note; at = f.at; here = f.here; passes = f.passes }

  by_count : (k : ℕ) → passing test (notes_of p notes) ≡ k → (1 ≤ passing test (all_notes_of p lists) → Found p test lists) → Found p test (notes ∷ lists)
  by_count zero none rest = behind (rest (omega (arith, some, none, passing-append test (notes_of p notes) (all_notes_of p lists))))
  by_count (suc k) one rest = here_in (found-in p test notes (omega (arith, one)))
