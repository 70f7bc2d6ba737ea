-- Origins of a part written one by one: what is written belongs where it stands, and the place of each note of the part so
-- far is taken.
use Rattle.std.proofs.Common.{◌≡◌, ◌≢◌, ℕ, zero, suc, ◌+◌, ◌<◌, ◌≤◌, inl, inr, List, length, get_or, set, replicate, refl, ap, sym, subst, ◌∙◌, arith, get_or-set_same, get_or-set_other}
use Rattle.std.specs.Prelude.{Option, Some, None, IsSome, option_and_then, slice_get}
use Rattle.std.proofs.lemmas.Option.{slice_get_within, slice_get_past}
use Rattle.std.proofs.lemmas.Bool.{cases_eq}
use Rattle.co_object.specs.declared.Note.{Note}
use Rattle.co_program.specs.declared.Script.{Script}
use Rattle.co_print.specs.declared.origin.Origin.{Origin}
use Rattle.co_print.specs.Origins.{note_at, note_from}
use Rattle.co_print.specs.Order.{place_index, IsOfPart, location, note_behind, IsBefore, AreWritten}

abbrev pub nowhere : List (List Note) → Origin
nowhere lists = record { actor = length lists; number = 0 }

no-note : (lists : List (List Note)) (number : ℕ) → note_at lists (length lists) number ≡ None
no-note lists number = ap (λ o. option_and_then (λ notes. slice_get notes number) o) (slice_get_past lists (length lists) (omega arith))

get-filled : (n q : ℕ) (x : Origin) → get_or (replicate n x) q x ≡ x
get-filled zero q x = refl
get-filled (suc n) zero x = refl
get-filled (suc n) (suc q) x = get-filled n q x

-- at the beginning nothing is written
pub none-written : (s : Script) (lists : List (List Note)) (first : ℕ) (starts : List ℕ) (n : ℕ) → AreWritten s lists first starts (replicate n (nowhere lists)) 0 0
none-written s lists first starts n = record {
  belong = λ q note at. (let none : note_behind lists (replicate n (nowhere lists)) q ≡ None = ap (note_from lists) (get-filled n q (nowhere lists)) ∙ no-note lists 0 in cc);
  taken = λ a k note before at of. elim before [ inl less ↦ absurd (omega arith) | inr here ↦ absurd (omega (arith, here.1)) ];
}

abbrev some_or : Note → Option Note → Note
some_or d None = d
some_or d (Some n) = n

-- the origins with one more, of this actor and number
abbrev pub with_at : List Origin → ℕ → ℕ → ℕ → List Origin
with_at origins at a i = set origins at (record { actor = a; number = i })

-- one more note
module _ (s : Script) (lists : List (List Note)) (first : ℕ) (starts : List ℕ) (origins : List Origin) (a i : ℕ) (n : Note)
    (here : note_at lists a i ≡ Some n) (w : AreWritten s lists first starts origins a i) where
  abbrev IsOf : Note → Type 0
  IsOf m = IsOfPart first starts (place_index s m.place)

  -- a note before the next one is this one or before it
  this : (b k : ℕ) (m : Note) → note_at lists b k ≡ Some m → b ≡ a → k ≡ i → m ≡ n
  this b k m there eb ek =
      let both : Some m ≡ Some n = sym there ∙ (ap (λ c. note_at lists c k) eb ∙ (ap (λ j. note_at lists a j) ek ∙ here)) in
      ap (some_or m) both

  earlier : (b k : ℕ) (m : Note) → IsBefore a (i + 1) b k → note_at lists b k ≡ Some m → IsOf m → (m ≡ n → ⊥) → IsSome (note_behind lists origins (location s first starts m))
  earlier b k m before there of other = elim before [
    | inl less ↦ w.taken b k m (inl less) there of
    | inr h ↦ elim (cases_eq k i) [ inl ek ↦ absurd (other (this b k m there h.0 ek)) | inr apart ↦ w.taken b k m (inr (h.0, omega (arith, h.1, apart))) there of ]
  ]

  -- it is of another part
  pub one-passed : (IsOf n → ⊥) → AreWritten s lists first starts origins a (i + 1)
  one-passed other = record {
    belong = w.belong;
    taken = λ b k m before there of. earlier b k m before there of (λ same. other (subst (λ x. IsOf x) same of));
  }

  -- it is of this part
  module _ (at : ℕ) (of_part : IsOf n) (is : at ≡ location s first starts n) (room : at < length origins) where
    abbrev with_one : List Origin
    with_one = with_at origins at a i

    written : note_behind lists with_one at ≡ Some n
    written = ap (note_from lists) (get_or-set_same origins at (record { actor = a; number = i }) (nowhere lists) room) ∙ here

    kept : (q : ℕ) → q ≢ at → note_behind lists with_one q ≡ note_behind lists origins q
    kept q apart = ap (note_from lists) (get_or-set_other origins at q (record { actor = a; number = i }) (nowhere lists) apart)

    belongs : (q : ℕ) (m : Note) → note_behind lists with_one q ≡ Some m → IsOf m × (location s first starts m ≡ q)
    belongs q m there = elim (cases_eq q at) [ inl same ↦ at_it same | inr apart ↦ w.belong q m (sym (kept q apart) ∙ there) ]
      where
        at_it : q ≡ at → IsOf m × (location s first starts m ≡ q)
        at_it same =
            let both : Some m ≡ Some n = sym there ∙ (ap (λ j. note_behind lists with_one j) same ∙ written) in
            let one : m ≡ n = ap (some_or m) both in
            (subst (λ x. IsOf x) (sym one) of_part, ap (location s first starts) one ∙ (sym is ∙ sym same))

    is_taken : (b k : ℕ) (m : Note) → IsBefore a (i + 1) b k → note_at lists b k ≡ Some m → IsOf m → IsSome (note_behind lists with_one (location s first starts m))
    is_taken b k m before there of = elim (cases_eq (location s first starts m) at) [
      | inl same ↦ subst IsSome (sym (ap (λ j. note_behind lists with_one j) same ∙ written)) refl
      | inr apart ↦ subst IsSome (sym (kept (location s first starts m) apart)) (earlier b k m before there of (λ one. apart (ap (location s first starts) one ∙ sym is)))
    ]

    pub one-written : AreWritten s lists first starts with_one a (i + 1)
    one-written = record { belong = belongs; taken = is_taken }

-- after the last note of a list
pub list-written : (s : Script) (lists : List (List Note)) (first : ℕ) (starts : List ℕ) (origins : List Origin) (a i : ℕ) (row : List Note)
    → slice_get lists a ≡ Some row → length row ≤ i → AreWritten s lists first starts origins a i → AreWritten s lists first starts origins (a + 1) 0
list-written s lists first starts origins a i row is_row past w = record {
  belong = w.belong;
  taken = λ b k m before there of. elim before [ inl less ↦ taken b k m less there of | inr h ↦ absurd (omega (arith, h.1)) ];
}
  where
    within : (k : ℕ) (m : Note) → note_at lists a k ≡ Some m → k < i
    within k m there =
        let at : slice_get row k ≡ Some m = sym (ap (λ o. option_and_then (λ ns. slice_get ns k) o) is_row) ∙ there in
        omega (arith, slice_get_within row k m at)

    taken : (b k : ℕ) (m : Note) → b < a + 1 → note_at lists b k ≡ Some m → IsOfPart first starts (place_index s m.place) → IsSome (note_behind lists origins (location s first starts m))
    taken b k m less there of = elim (cases_eq b a) [
      | inl same ↦ w.taken b k m (inr (same, within k m (sym (ap (λ c. note_at lists c k) same) ∙ there))) there of
      | inr other ↦ w.taken b k m (inl (omega (arith, less, other))) there of
    ]
