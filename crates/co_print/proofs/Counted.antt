-- The notes of each place, counted: how many there are, and that the position of each note is below that number.
use Rattle.std.proofs.Common.{◌≡◌, ℕ, zero, suc, ◌+◌, ◌-◌, ◌<◌, ◌≤◌, ◌==◌, Bool, true, cond, List, [], ◌∷◌, ◌++◌, map, take, drop, length, get_or, refl, ap, sym, subst, ◌∙◌, arith, length-append, get_or-drop, get_or-take, length-take, length-drop}
use Rattle.std.specs.Prelude.{Some, Result, Ok, Err, IfOk, slice_get, slice_range}
use Rattle.std.proofs.lemmas.Grind.{flat_map-append}
use Rattle.std.proofs.lemmas.List.{map-append, take-append-drop}
use Rattle.std.proofs.lemmas.List.Sums.{length-filter, sum_by-append}
use Rattle.std.proofs.lemmas.Bool.Decides.{nat_tests}
use Rattle.co_sbt.specs.declared.NoMemory.{NoMemory}
use Rattle.co_object.specs.declared.Note.{Note}
use Rattle.co_object.specs.declared.Place.{Place}
use Rattle.co_object.specs.Lists.{same_place, notes_of, all_notes_of, count_at, IsWellFormed}
use Rattle.co_object.proofs.Passing.{passing, count-passing, passing-map}
use Rattle.co_program.specs.declared.Script.{Script}
use Rattle.co_print.specs.Histories.{Numbered, all_numbered_of}
use Rattle.co_print.specs.Origins.{note_at}
use Rattle.co_print.specs.declared.order.Counted.{Counted}
use Rattle.co_print.specs.Order.{place_index, place_count, count_in, all_of, spot_of, ArePlaceCounts, AreCounted}
use Rattle.co_program.specs.Places.{place_exists, HavePlaces, AllHavePlaces}
use Rattle.co_object.proofs.Members.{has-passing}
use Rattle.co_print.proofs.Numbering.{note_of, numbered, all-notes-of, has-note}
use Rattle.co_print.proofs.Places.{index_below, same_index, same_itself}

-- a note that is read from its list

list-place : (s : Script) (notes : List Note) (k : ℕ) (n : Note) → HavePlaces s notes → slice_get notes k ≡ Some n → place_exists s n.place ≡ true
list-place s [] k n all at = cc
list-place s (m ∷ ms) zero n all at = let is : m ≡ n = cc in subst (λ (x : Note). place_exists s x.place ≡ true) is all.0
list-place s (m ∷ ms) (suc k) n all at = list-place s ms k n all.1 at

pub note-place : (s : Script) (lists : List (List Note)) (a k : ℕ) (n : Note) → AllHavePlaces s lists → note_at lists a k ≡ Some n → place_exists s n.place ≡ true
note-place s [] a k n all at = cc
note-place s (notes ∷ lists) zero k n all at = list-place s notes k n all.0 at
note-place s (notes ∷ lists) (suc a) k n all at = note-place s lists a k n all.1 at

pub note-actor : (lists : List (List Note)) (a k : ℕ) (n : Note) → note_at lists a k ≡ Some n → a < length lists
note-actor [] a k n at = cc
note-actor (notes ∷ lists) zero k n at = omega arith
note-actor (notes ∷ lists) (suc a) k n at = let behind = note-actor lists a k n at in omega (arith, behind)

-- numbers of notes

same-passing : (s : Script) (p : Place) (notes : List Note) → place_exists s p ≡ true → HavePlaces s notes →
    passing (λ note. place_index s note.place == place_index s p) notes ≡ passing (λ note. same_place note.place p) notes
same-passing s p [] exists all = refl
same-passing s p (n ∷ ns) exists all =
    ap (λ b. cond {A = ℕ} b 1 0 + passing (λ note. place_index s note.place == place_index s p) ns) (same_index s n.place p all.0 exists)
    ∙ ap (λ k. cond {A = ℕ} (same_place n.place p) 1 0 + k) (same-passing s p ns exists all.1)

count-list : (s : Script) (p : Place) (notes : List Note) → place_exists s p ≡ true → HavePlaces s notes → count_in s (place_index s p) notes ≡ length (notes_of p notes)
count-list s p notes exists all =
    count-passing (λ note. place_index s note.place == place_index s p) notes
    ∙ (same-passing s p notes exists all
    ∙ (sym (count-passing (λ note. same_place note.place p) notes)
    ∙ sym (length-filter (λ note. same_place note.place p) notes)))

count-all : (s : Script) (p : Place) (lists : List (List Note)) → place_exists s p ≡ true → AllHavePlaces s lists → count_in s (place_index s p) (all_of lists) ≡ length (all_notes_of p lists)
count-all s p [] exists all = refl
count-all s p (notes ∷ lists) exists all =
    let both : count_in s (place_index s p) (notes ++ all_of lists) ≡ count_in s (place_index s p) notes + count_in s (place_index s p) (all_of lists) =
    sum_by-append (λ (note : Note). cond (place_index s note.place == place_index s p) 1 0) notes (all_of lists) in
    omega (arith, both, count-list s p notes exists all.0, count-all s p lists exists all.1, length-append (notes_of p notes) (all_notes_of p lists))

count-of : (s : Script) (lists : List (List Note)) (counts : List ℕ) (p : Place) → ArePlaceCounts s lists counts → AllHavePlaces s lists → place_exists s p ≡ true →
    get_or counts (place_index s p) 0 ≡ length (all_notes_of p lists)
count-of s lists counts p are all exists = are.each (place_index s p) (index_below s p exists) ∙ count-all s p lists exists all

-- these are the numbers of notes of the places from `first` up to `end`
pub record ArePartCounts (s : Script) (lists : List (List Note)) (first end : ℕ) (part : List ℕ) : Type 0 where
  pub places : first + length part ≡ end
  pub each : (p : Place) → place_exists s p ≡ true → first ≤ place_index s p → place_index s p < end → get_or part (place_index s p - first) 0 ≡ length (all_notes_of p lists)

pub part-counted : (s : Script) (lists : List (List Note)) (counts : List ℕ) (first end : ℕ) → ArePlaceCounts s lists counts → AllHavePlaces s lists → first ≤ end → end ≤ place_count s
    → ArePartCounts s lists first end (slice_range counts first end)
part-counted s lists counts first end are all order upto = record {
  places = omega (arith, order, upto, are.places, length-take (end - first) (drop first counts), length-drop first counts);
  each = λ p exists from below. (
      let inside : place_index s p - first < end - first = omega (arith, from, below) in
      let same : first + (place_index s p - first) ≡ place_index s p = omega (arith, from) in
      get_or-take (end - first) (drop first counts) (place_index s p - first) 0 inside
      ∙ (get_or-drop first counts (place_index s p - first) 0
      ∙ (ap (λ i. get_or counts i 0) same
      ∙ count-of s lists counts p are all exists)));
}

-- what is counted of the lists up to one of them and of those behind it, together
halves-counted : (s : Script) (lists : List (List Note)) (k : ℕ) (front back all : Counted)
    → AreCounted s (take k lists) front → AreCounted s (drop k lists) back
    → length all.counts ≡ length front.counts
    → ((i : ℕ) → i < length front.counts → get_or all.counts i 0 ≡ get_or front.counts i 0 + get_or back.counts i 0)
    → all.spots ≡ front.spots ++ back.spots → AreCounted s lists all
halves-counted s lists k front back all before behind places each spots = record {
  counts = record {
    places = places ∙ before.counts.places;
    each = λ i below. each i (omega (arith, below, before.counts.places)) ∙ sum i below;
  };
  spots = spots ∙ (cc (before.spots, behind.spots, both, split));
}
  where
    split : take k lists ++ drop k lists ≡ lists
    split = take-append-drop k lists

    both : map (map (spot_of s)) (take k lists ++ drop k lists) ≡ map (map (spot_of s)) (take k lists) ++ map (map (spot_of s)) (drop k lists)
    both = map-append (map (spot_of s)) (take k lists) (drop k lists)

    sum : (i : ℕ) → i < place_count s → get_or front.counts i 0 + get_or back.counts i 0 ≡ count_in s i (all_of lists)
    sum i below =
        let one : count_in s i (all_of (take k lists) ++ all_of (drop k lists)) ≡ count_in s i (all_of (take k lists)) + count_in s i (all_of (drop k lists)) =
        sum_by-append (λ (note : Note). cond (place_index s note.place == i) 1 0) (all_of (take k lists)) (all_of (drop k lists)) in
        let all : all_of lists ≡ all_of (take k lists) ++ all_of (drop k lists) =
        ap all_of (sym split) ∙ flat_map-append (λ (notes : List Note). notes) (take k lists) (drop k lists) in
        omega (arith, one, ap (λ ns. count_in s i ns) all, before.counts.each i below, behind.counts.each i below)

-- the same where there was room for what they come to
pub halves-joined : (s : Script) (lists : List (List Note)) (k : ℕ) (front back : Counted) (joined : Result Counted NoMemory)
    → AreCounted s (take k lists) front → AreCounted s (drop k lists) back
    → IfOk joined (λ all. length all.counts ≡ length front.counts)
    → IfOk joined (λ all. (i : ℕ) → i < length front.counts → get_or all.counts i 0 ≡ get_or front.counts i 0 + get_or back.counts i 0)
    → IfOk joined (λ all. all.spots ≡ front.spots ++ back.spots) → IfOk joined (λ all. AreCounted s lists all)
halves-joined s lists k front back (Ok all) before behind places each spots = halves-counted s lists k front back all before behind places each spots
halves-joined s lists k front back (Err none) before behind places each spots = tt

-- positions

abbrev pub is_at : ℕ → Note → Bool
is_at pos note = note.pos == pos

pub passing-numbered : (p : Place) (pos : ℕ) (lists : List (List Note)) → passing (λ (x : Numbered). is_at pos x.note) (all_numbered_of p lists) ≡ count_at pos (all_notes_of p lists)
passing-numbered p pos lists =
    sym (passing-map (is_at pos) note_of (all_numbered_of p lists))
    ∙ (ap (λ ns. passing (is_at pos) ns) (all-notes-of p lists)
    ∙ sym (count-passing (is_at pos) (all_notes_of p lists)))

at-itself : (n : Note) → is_at n.pos n ≡ true
at-itself n = grind (arith, nat_tests)

pub pos-below : (lists : List (List Note)) (a k : ℕ) (n : Note) → IsWellFormed lists → note_at lists a k ≡ Some n → n.pos < length (all_notes_of n.place lists)
pos-below lists a k n formed at =
    let one : 1 ≤ passing (λ (x : Numbered). is_at n.pos x.note) (all_numbered_of n.place lists) =
    has-passing (λ (x : Numbered). is_at n.pos x.note) (numbered k n) (all_numbered_of n.place lists) (at-itself n) (has-note n.place lists a k n at (same_itself n.place)) in
    let none : length (all_notes_of n.place lists) ≤ n.pos → count_at n.pos (all_notes_of n.place lists) ≡ 0 = formed.others n.place n.pos in
    let count : passing (λ (x : Numbered). is_at n.pos x.note) (all_numbered_of n.place lists) ≡ count_at n.pos (all_notes_of n.place lists) = passing-numbered n.place n.pos lists in
    let some : 1 ≤ count_at n.pos (all_notes_of n.place lists) = omega (arith, one, count) in
    grind arith
