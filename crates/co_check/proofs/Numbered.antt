-- A line's number is taken, or something is wrong with it: as the code's slots and highest numbers say.
use Rattle.std.proofs.Common.{◌≡◌, ◌≢◌, ℕ, ◌+◌, ◌<◌, ◌≤◌, ◌==◌, ◌&&◌, ◌||◌, Bool, true, false, cond, nat_le, List, [], ◌∷◌, ◌++◌, length, get_or, set, get_or-set_same, get_or-set_other, refl, ap, sym, subst, ◌∙◌, arith, inl, inr}
use Rattle.std.specs.Prelude.{Option, Some, None, is_some, Vec, slice_get}
use Rattle.std.proofs.lemmas.Bool.{cases_eq}
use Rattle.std.proofs.lemmas.Bool.Decides.{nat_tests}
use Rattle.std.proofs.lemmas.List.{length-set}
use Rattle.std.proofs.lemmas.Option.{slice_get_within}
use Rattle.co_object.specs.declared.Place.{Place}
use Rattle.co_object.specs.Lists.{same_place}
use Rattle.co_program.specs.declared.script.Script.{Script}
use Rattle.co_program.specs.Actors.{actor_count}
use Rattle.co_program.specs.Places.{place_exists}
use Rattle.co_print.specs.Order.{place_index}
use Rattle.co_print.proofs.Places.{same_index}
use Rattle.co_check.specs.declared.index.Index.{Index}
use Rattle.co_report.specs.declared.line.Line.{Line}
use Rattle.co_check.specs.declared.verdict.Unfit.{Unfit}
use Rattle.co_check.specs.declared.verdict.Unfit.TheVariants.{Number}
use Rattle.co_check.specs.Index.{note_slot, highest, AreActorSlots, AreLatest, IsIndexed}
use Rattle.co_check.specs.Lines.{IsLineOf}
use Rattle.co_check.specs.Numbers.{lines_made_by, is_beyond, is_taken, falls, number_at}
use Rattle.co_check.specs.Shown.{actor_of, is_note, is_in_place_by}
use Rattle.co_check.proofs.Numbering.{any-index, index-other, index-same, highest-other, highest-same, none-above, some-above}
use Rattle.co_check.proofs.Taking.{get-set-same, get-set-other, some-is}

-- ---- tests

equal : (m : ℕ) → (m == m) ≡ true
equal m = grind (arith, nat_tests)

apart-is : (m n : ℕ) → m ≢ n → (m == n) ≡ false
apart-is m n h = grind (arith, nat_tests)

pub le-false : (m n : ℕ) → n < m → nat_le m n ≡ false
le-false m n h = grind (arith, nat_tests)

both : (b c : Bool) → b ≡ true → c ≡ true → (b && c) ≡ true
both true true h g = refl
both true false h g = g
both false true h g = h
both false false h g = h

not-first : (b c : Bool) → b ≡ false → (b && c) ≡ false
not-first true c h = cc
not-first false c h = refl

not-second : (b c : Bool) → c ≡ false → (b && c) ≡ false
not-second true c h = h
not-second false c h = refl

first-of : (b c : Bool) → (b && c) ≡ true → b ≡ true
first-of true c h = refl
first-of false c h = h

note-own : (l : Line) → is_note (actor_of l.entry) l.number l ≡ true
note-own l = both (actor_of l.entry == actor_of l.entry) (l.number == l.number) (equal (actor_of l.entry)) (equal l.number)

note-number : (a k : ℕ) (l : Line) → k ≢ l.number → is_note a k l ≡ false
note-number a k l h = not-second (actor_of l.entry == a) (l.number == k) (apart-is l.number k (λ e. h (sym e)))

note-actor : (b k : ℕ) (l : Line) → b ≢ actor_of l.entry → is_note b k l ≡ false
note-actor b k l h = not-first (actor_of l.entry == b) (l.number == k) (apart-is (actor_of l.entry) b (λ e. h (sym e)))

of-own : (p : Place) (l : Line) → same_place l.place p ≡ true → is_in_place_by (actor_of l.entry) p l ≡ true
of-own p l h = both (actor_of l.entry == actor_of l.entry) (same_place l.place p) (equal (actor_of l.entry)) h

of-actor : (b : ℕ) (p : Place) (l : Line) → b ≢ actor_of l.entry → is_in_place_by b p l ≡ false
of-actor b p l h = not-first (actor_of l.entry == b) (same_place l.place p) (apart-is (actor_of l.entry) b (λ e. h (sym e)))

of-place : (b : ℕ) (p : Place) (l : Line) → same_place l.place p ≡ false → is_in_place_by b p l ≡ false
of-place b p l h = not-second (actor_of l.entry == b) (same_place l.place p) h

-- ---- the answer

abbrev found_if : Bool → Option Unfit
found_if b = cond {A = Option Unfit} b (Some Number) None

pub all-fine : (b c d : Bool) → b ≡ false → c ≡ false → d ≡ false → found_if (b || c || d) ≡ None
all-fine b c d x y z = ap (λ b. found_if (b || c || d)) x ∙ (ap (λ c. found_if (c || d)) y ∙ ap found_if z)

beyond-bad : (b c d : Bool) → b ≡ true → found_if (b || c || d) ≡ Some Number
beyond-bad b c d x = ap (λ b. found_if (b || c || d)) x

or-last : (b : Bool) → found_if (b || true) ≡ Some Number
or-last true = refl
or-last false = refl

or-second : (b d : Bool) → found_if (b || true || d) ≡ Some Number
or-second true d = refl
or-second false d = refl

taken-bad : (b c d : Bool) → c ≡ true → found_if (b || c || d) ≡ Some Number
taken-bad b c d x = ap (λ c. found_if (b || c || d)) x ∙ or-second b d

falls-bad : (b c d : Bool) → d ≡ true → found_if (b || c || d) ≡ Some Number
falls-bad b c d x = ap (λ d. found_if (b || c || d)) x ∙ or-last (b || c)

module _ (s : Script) (lines above : List Line) (l : Line) (row : List (Option ℕ)) (slots : AreActorSlots lines above (actor_of l.entry) row) where
  -- the slot is free
  module _ (free : slice_get row l.number ≡ Some None) where
    pub in_range : l.number < lines_made_by (actor_of l.entry) lines
    in_range = omega (arith, slice_get_within row l.number None free, slots.count)

    none : note_slot above (actor_of l.entry) l.number ≡ None
    none = some-is (note_slot above (actor_of l.entry) l.number) None (sym (slots.each l.number in_range) ∙ free)

    pub untaken : is_taken above l ≡ false
    untaken = any-index (is_note (actor_of l.entry) l.number) 0 above ∙ ap is_some none

    pub fine : highest (is_in_place_by (actor_of l.entry) l.place) above ≤ l.number → number_at lines above l ≡ None
    fine low = all-fine (is_beyond lines l) (is_taken above l) (falls above l) (le-false (lines_made_by (actor_of l.entry) lines) l.number in_range) untaken (none-above (is_in_place_by (actor_of l.entry) l.place) l.number above low)

    pub too_low : l.number < highest (is_in_place_by (actor_of l.entry) l.place) above → number_at lines above l ≡ Some Number
    too_low high = falls-bad (is_beyond lines l) (is_taken above l) (falls above l)
        (some-above (is_in_place_by (actor_of l.entry) l.place) (is_note (actor_of l.entry) l.number) l.number above
        (λ x h e. both (actor_of x.entry == actor_of l.entry) (x.number == l.number) (first-of (actor_of x.entry == actor_of l.entry) (same_place x.place l.place) h) (ap (λ n. n == l.number) e ∙ equal l.number))
        high untaken)

  slot-taken : (o : Option ℕ) → (Some o ≡ Some None → ⊥) → is_some o ≡ true
  slot-taken None h = absurd (h refl)
  slot-taken (Some i) h = refl

  -- it is not, or there is none
  pub not_free : slice_get row l.number ≢ Some None → number_at lines above l ≡ Some Number
  not_free full = at_test (nat_le (lines_made_by (actor_of l.entry) lines) l.number) refl where
    within : nat_le (lines_made_by (actor_of l.entry) lines) l.number ≡ false → l.number < lines_made_by (actor_of l.entry) lines
    within h = lower (lines_made_by (actor_of l.entry) lines) l.number h where
      lower : (m n : ℕ) → nat_le m n ≡ false → n < m
      lower m n h = grind (arith, nat_tests)

    at_test : (b : Bool) → nat_le (lines_made_by (actor_of l.entry) lines) l.number ≡ b → number_at lines above l ≡ Some Number
    at_test true is = beyond-bad (is_beyond lines l) (is_taken above l) (falls above l) is
    at_test false is = taken-bad (is_beyond lines l) (is_taken above l) (falls above l)
        (any-index (is_note (actor_of l.entry) l.number) 0 above
        ∙ slot-taken (note_slot above (actor_of l.entry) l.number) (λ e. full (slots.each l.number (within is) ∙ e)))

-- ---- one line more

own-slots : (lines above : List Line) (l : Line) (row : List (Option ℕ)) (at : ℕ) → at ≡ length above → AreActorSlots lines above (actor_of l.entry) row → slice_get row l.number ≡ Some None
    → is_taken above l ≡ false → AreActorSlots lines (above ++ l ∷ []) (actor_of l.entry) (set row l.number (Some at))
own-slots lines above l row at is h free untaken = record {
  count = length-set row l.number (Some at) ∙ h.count;
  each = λ k below. elim (cases_eq k l.number) [
    | inl same ↦ here k same
    | inr apart ↦ get-set-other row l.number k (Some at) apart ∙ (h.each k below ∙ ap Some (sym (index-other (is_note (actor_of l.entry) k) 0 above l (note-number (actor_of l.entry) k l apart))))
  ];
}
  where
    here : (k : ℕ) → k ≡ l.number → slice_get (set row l.number (Some at)) k ≡ Some (note_slot (above ++ l ∷ []) (actor_of l.entry) k)
    here k same =
        ap (slice_get (set row l.number (Some at))) same
        ∙ (get-set-same row l.number None (Some at) free
        ∙ (ap (λ (n : ℕ). Some (Some n)) (is ∙ omega arith)
        ∙ (ap Some (sym (index-same (is_note (actor_of l.entry) l.number) 0 above l untaken (note-own l)))
        ∙ ap (λ n. Some (note_slot (above ++ l ∷ []) (actor_of l.entry) n)) (sym same))))

other-slots : (lines above : List Line) (l : Line) (b : ℕ) (row : List (Option ℕ)) → b ≢ actor_of l.entry → AreActorSlots lines above b row → AreActorSlots lines (above ++ l ∷ []) b row
other-slots lines above l b row apart h = record {
  count = h.count;
  each = λ k below. h.each k below ∙ ap Some (sym (index-other (is_note b k) 0 above l (note-actor b k l apart)));
}

own-latest : (actors : ℕ) (above : List Line) (l : Line) (p : Place) (row : List ℕ) → same_place l.place p ≡ true → AreLatest actors above p row → actor_of l.entry < actors → get_or row (actor_of l.entry) 0 ≤ l.number
    → AreLatest actors (above ++ l ∷ []) p (set row (actor_of l.entry) (l.number + 1))
own-latest actors above l p row here h inside low = record {
  count = length-set row (actor_of l.entry) (l.number + 1) ∙ h.count;
  each = λ b below. elim (cases_eq b (actor_of l.entry)) [
    | inl same ↦ own b same
    | inr apart ↦ get_or-set_other row (actor_of l.entry) b (l.number + 1) 0 apart ∙ (h.each b below ∙ sym (highest-other (is_in_place_by b p) above l (of-actor b p l apart)))
  ];
}
  where
    in_row : actor_of l.entry < length row
    in_row = omega (arith, h.count, inside)

    own : (b : ℕ) → b ≡ actor_of l.entry → get_or (set row (actor_of l.entry) (l.number + 1)) b 0 ≡ highest (is_in_place_by b p) (above ++ l ∷ [])
    own b same =
        ap (λ n. get_or (set row (actor_of l.entry) (l.number + 1)) n 0) same
        ∙ (get_or-set_same row (actor_of l.entry) (l.number + 1) 0 in_row
        ∙ (sym (highest-same (is_in_place_by (actor_of l.entry) p) above l (of-own p l here) (omega (arith, low, h.each (actor_of l.entry) inside)))
        ∙ ap (λ n. highest (is_in_place_by n p) (above ++ l ∷ [])) (sym same)))

other-latest : (actors : ℕ) (above : List Line) (l : Line) (p : Place) (row : List ℕ) → same_place l.place p ≡ false → AreLatest actors above p row → AreLatest actors (above ++ l ∷ []) p row
other-latest actors above l p row apart h = record {
  count = h.count;
  each = λ b below. h.each b below ∙ sym (highest-other (is_in_place_by b p) above l (of-place b p l apart));
}

pub numbered : (s : Script) (lines above : List Line) (l : Line) (x new : Index) (row slots' : Vec (Option ℕ) _) (high high' : Vec ℕ _) (at : ℕ) → IsLineOf s l → at ≡ length above → IsIndexed s lines above x
    → slice_get x.slots.items (actor_of l.entry) ≡ Some row → slice_get row.items l.number ≡ Some None → slots'.items ≡ set row.items l.number (Some at)
    → slice_get x.latest.items (place_index s l.place) ≡ Some high → get_or high.items (actor_of l.entry) 0 ≤ l.number → high'.items ≡ set high.items (actor_of l.entry) (l.number + 1)
    → new.slots.items ≡ set x.slots.items (actor_of l.entry) slots' → new.latest.items ≡ set x.latest.items (place_index s l.place) high'
    → (number_at lines above l ≡ None) × IsIndexed s lines (above ++ l ∷ []) new
numbered s lines above l x new row slots' high high' at of is h row_is free slots'_is high_is low high'_is slots_are latest_are = (
  fine s lines above l row.items old free (omega (arith, low, old_latest.each (actor_of l.entry) of.actor)),
  record {
    actors = ap length slots_are ∙ (length-set x.slots.items (actor_of l.entry) slots' ∙ h.actors);
    places = ap length latest_are ∙ (length-set x.latest.items (place_index s l.place) high' ∙ h.places);
    slots = λ b r there. elim (cases_eq b (actor_of l.entry)) [
      | inl same ↦ own_row b r same there
      | inr apart ↦ other-slots lines above l b r.items apart (h.slots b r (sym (get-set-other x.slots.items (actor_of l.entry) b slots' apart) ∙ (ap (λ xs. slice_get xs b) (sym slots_are) ∙ there)))
    ];
    latest = λ p r exists there. elim (cases_eq (place_index s p) (place_index s l.place)) [
      | inl same ↦ own_place p r exists same there
      | inr apart ↦ other-latest (actor_count s) above l p r.items (other_place p exists apart) (h.latest p r exists (sym (get-set-other x.latest.items (place_index s l.place) (place_index s p) high' apart) ∙ (ap (λ xs. slice_get xs (place_index s p)) (sym latest_are) ∙ there)))
    ];
  },
)
  where
    old : AreActorSlots lines above (actor_of l.entry) row.items
    old = h.slots (actor_of l.entry) row row_is

    old_latest : AreLatest (actor_count s) above l.place high.items
    old_latest = h.latest l.place high of.place high_is

    own_row : (b : ℕ) (r : Vec (Option ℕ) _) → b ≡ actor_of l.entry → slice_get new.slots.items b ≡ Some r → AreActorSlots lines (above ++ l ∷ []) b r.items
    own_row b r same there =
        let it : r ≡ slots' = some-is r slots' (sym there ∙ (ap (λ xs. slice_get xs b) slots_are ∙ (ap (slice_get (set x.slots.items (actor_of l.entry) slots')) same ∙ get-set-same x.slots.items (actor_of l.entry) row slots' row_is))) in
        subst (λ n. AreActorSlots lines (above ++ l ∷ []) n r.items) (sym same)
        (subst (λ rs. AreActorSlots lines (above ++ l ∷ []) (actor_of l.entry) rs) (sym (ap (λ (v : Vec (Option ℕ) _). v.items) it ∙ slots'_is)) (own-slots lines above l row.items at is old free (untaken s lines above l row.items old free)))

    is_place : (p : Place) → place_exists s p ≡ true → (place_index s l.place == place_index s p) ≡ same_place l.place p
    is_place p exists = same_index s l.place p of.place exists

    other_place : (p : Place) → place_exists s p ≡ true → place_index s p ≢ place_index s l.place → same_place l.place p ≡ false
    other_place p exists apart = sym (is_place p exists) ∙ apart-is (place_index s l.place) (place_index s p) (λ e. apart (sym e))

    own_place : (p : Place) (r : Vec ℕ _) → place_exists s p ≡ true → place_index s p ≡ place_index s l.place → slice_get new.latest.items (place_index s p) ≡ Some r → AreLatest (actor_count s) (above ++ l ∷ []) p r.items
    own_place p r exists same there =
        let it : r ≡ high' = some-is r high' (sym there ∙ (ap (λ xs. slice_get xs (place_index s p)) latest_are ∙ (ap (slice_get (set x.latest.items (place_index s l.place) high')) same ∙ get-set-same x.latest.items (place_index s l.place) high high' high_is))) in
        let here : same_place l.place p ≡ true = sym (is_place p exists) ∙ (ap (λ n. place_index s l.place == n) same ∙ equal (place_index s l.place)) in
        subst (λ rs. AreLatest (actor_count s) (above ++ l ∷ []) p rs) (sym (ap (λ (v : Vec ℕ _). v.items) it ∙ high'_is))
        (own-latest (actor_count s) above l p high.items here (h.latest p high exists (ap (slice_get x.latest.items) same ∙ high_is)) of.actor low)
