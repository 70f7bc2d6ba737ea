-- The array of origins has room for each note of the part, where the starts are those of its places' numbers of notes.
use Rattle.std.proofs.Common.{◌≡◌, ℕ, ◌+◌, ◌-◌, ◌<◌, ◌≤◌, ◌^◌, List, length, get_or, sym, subst, arith}
use Rattle.std.specs.Prelude.{Some}
use Rattle.co_object.specs.declared.Note.{Note}
use Rattle.co_object.specs.Lists.{IsWellFormed}
use Rattle.co_program.specs.declared.Script.{Script}
use Rattle.co_print.specs.Origins.{note_at}
use Rattle.co_print.specs.Order.{place_index, starts_from, IsOfPart, location, HasRoomForOrigins}
use Rattle.co_program.specs.Places.{AllHavePlaces}
use Rattle.co_print.proofs.Starts.{length-starts, next-start, starts-upto}
use Rattle.co_print.proofs.Counted.{note-place, ArePartCounts, pos-below}

module _ (s : Script) (lists : List (List Note)) (first end : ℕ) (part : List ℕ) (exist : AllHavePlaces s lists) (formed : IsWellFormed lists) (are : ArePartCounts s lists first end part) where
  abbrev IsOf : ℕ → Type 0
  IsOf i = IsOfPart first (starts_from 0 part) i

  pub of-part : (i : ℕ) → first ≤ i → i < end → IsOf i
  of-part i from below = (from, omega (arith, below, length-starts 0 part, are.places))

  below-end : (i : ℕ) → IsOf i → i < end
  below-end i of = omega (arith, of.0, of.1, length-starts 0 part, are.places)

  pub in-part : (i : ℕ) → IsOf i → i - first < length part
  in-part i of = omega (arith, of.0, of.1, length-starts 0 part)

  pub pos-in-run : (a k : ℕ) (n : Note) → note_at lists a k ≡ Some n → IsOf (place_index s n.place) → n.pos < get_or part (place_index s n.place - first) 0
  pos-in-run a k n at of = omega (arith, pos-below lists a k n formed at, are.each n.place (note-place s lists a k n exist at) of.0 (below-end (place_index s n.place) of))

  inside : (a k : ℕ) (n : Note) → note_at lists a k ≡ Some n → IsOf (place_index s n.place) → location s first (starts_from 0 part) n < get_or (starts_from 0 part) (length part) 0
  inside a k n at of =
      let i : ℕ = place_index s n.place - first in
      let below : i < length part = in-part (place_index s n.place) of in
      omega (arith, pos-in-run a k n at of, next-start 0 part i below, starts-upto 0 part (i + 1) (length part) (omega (arith, below)) (omega arith))

  pub has-room : (starts : List ℕ) → starts ≡ starts_from 0 part → get_or starts (length part) 0 < 2 ^ 64 → HasRoomForOrigins s lists first starts (get_or starts (length part) 0)
  has-room starts is fits = record {
    fits = fits;
    inside = λ a k n at of. (
        let same : IsOfPart first (starts_from 0 part) (place_index s n.place) = subst (λ ss. IsOfPart first ss (place_index s n.place)) is of in
        subst (λ ss. location s first ss n < get_or ss (length part) 0) (sym is) (inside a k n at same));
  }
