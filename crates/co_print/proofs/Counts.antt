-- The place of a note that is read from its list exists, and what is counted of one note or one list more.
use Rattle.std.proofs.Common.{◌≡◌, ℕ, suc, ◌+◌, ◌<◌, ◌≤◌, ◌==◌, Bool, true, false, cond, List, [], ◌∷◌, ◌++◌, map, take, set, length, get_or, refl, ap, sym, subst, ◌∙◌, arith, append-nil, take-suc}
use Rattle.std.proofs.lemmas.Bool.{eqb-true, eqb-false}
use Rattle.std.proofs.lemmas.Grind.{flat_map-append, get_or-set_at}
use Rattle.std.proofs.lemmas.List.{map-append, get_or-set_other}
use Rattle.std.proofs.lemmas.List.Elements.{All-from_recursion}
use Rattle.std.proofs.lemmas.List.Sums.{sum_by-append}
use Rattle.co_object.specs.declared.Note.{Note}
use Rattle.co_program.specs.declared.Script.{Script}
use Rattle.co_program.specs.Places.{place_exists, HavePlaces}
use Rattle.co_print.specs.Order.{place_index, count_in, all_of}

pub note_exists : (s : Script) (notes : List Note) (k : ℕ) (n : Note) → HavePlaces s notes → k < length notes → n ≡ get_or notes k n → place_exists s n.place ≡ true
note_exists s notes k n all inside is =
    subst (λ (m : Note). place_exists s m.place ≡ true) (sym is) (All-from_recursion (λ (m : Note). place_exists s m.place ≡ true) notes all k n inside)

-- the first items, and the next one
pub taken_more : {A : Type 0} (xs : List A) (k : ℕ) (x : A) → k < length xs → x ≡ get_or xs k x → take (k + 1) xs ≡ take k xs ++ x ∷ []
taken_more xs k x inside is =
    let next : k + 1 ≡ suc k = omega arith in
    ap (λ j. take j xs) next ∙ (take-suc xs k x inside ∙ ap (λ y. take k xs ++ y ∷ []) (sym is))

-- copies of the first items, and of the next one
pub copied_more : {A : Type 0} (xs : List A) (k : ℕ) (x y : A) (old new : List A) → k < length xs → x ≡ get_or xs k x → y ≡ x → old ≡ take k xs → new ≡ old ++ y ∷ [] → new ≡ take (k + 1) xs
copied_more xs k x y old new inside is same before put =
    put ∙ (ap (λ ys. ys ++ y ∷ []) before ∙ (ap (λ z. take k xs ++ z ∷ []) same ∙ sym (taken_more xs k x inside is)))

-- what was made of the first items, and of the next one
pub made_more : {A B : Type 0} (f : A → B) (xs : List A) (k : ℕ) (x : A) (y : B) (old new : List B) → k < length xs → x ≡ get_or xs k x → y ≡ f x → old ≡ map f (take k xs) → new ≡ old ++ y ∷ []
    → new ≡ map f (take (k + 1) xs)
made_more f xs k x y old new inside is made before put =
    let more : map f (take (k + 1) xs) ≡ map f (take k xs) ++ f x ∷ [] = ap (map f) (taken_more xs k x inside is) ∙ map-append f (take k xs) (x ∷ []) in
    put ∙ (ap (λ ys. ys ++ y ∷ []) before ∙ (ap (λ z. map f (take k xs) ++ z ∷ []) made ∙ sym more))

-- one note more is counted
pub note_counted : (s : Script) (notes : List Note) (k place count : ℕ) (n : Note) (first counts now : List ℕ) → k < length notes → n ≡ get_or notes k n → place ≡ place_index s n.place → count ≡ get_or counts place 0 + 1
    → now ≡ set counts place count → place < length counts → (i : ℕ) → get_or counts i 0 ≡ get_or first i 0 + count_in s i (take k notes)
    → get_or now i 0 ≡ get_or first i 0 + count_in s i (take (k + 1) notes)
note_counted s notes k place count n first counts now inside is at more put within i before =
    let both : count_in s i (take k notes ++ n ∷ []) ≡ count_in s i (take k notes) + count_in s i (n ∷ []) =
    sum_by-append (λ (note : Note). cond (place_index s note.place == i) 1 0) (take k notes) (n ∷ []) in
    let single : count_in s i (n ∷ []) ≡ cond {A = ℕ} (place_index s n.place == i) 1 0 = omega arith in
    omega (arith, ap (λ ns. get_or ns i 0) put, step (place_index s n.place == i) refl, before, ap (count_in s i) (taken_more notes k n inside is), both, single)
  where
    step : (b : Bool) → (place_index s n.place == i) ≡ b → get_or (set counts place count) i 0 ≡ get_or counts i 0 + cond {A = ℕ} b 1 0
    step true e =
        let here : i ≡ place = sym (at ∙ eqb-true (place_index s n.place) i e) in
        get_or-set_at counts place i count 0 here within ∙ (more ∙ ap (λ j. get_or counts j 0 + 1) (sym here))
    step false e = get_or-set_other counts place i count 0 (λ here. eqb-false (place_index s n.place) i e (sym (here ∙ at))) ∙ omega arith

-- one list more is counted
pub list_counted : (s : Script) (lists : List (List Note)) (k : ℕ) (notes : List Note) (i old new : ℕ) → k < length lists → notes ≡ get_or lists k notes → old ≡ count_in s i (all_of (take k lists))
    → new ≡ old + count_in s i notes → new ≡ count_in s i (all_of (take (k + 1) lists))
list_counted s lists k notes i old new inside is before more =
    let all : all_of (take (k + 1) lists) ≡ all_of (take k lists) ++ notes =
    ap all_of (taken_more lists k notes inside is) ∙ (flat_map-append (λ (ns : List Note). ns) (take k lists) (notes ∷ []) ∙ ap (λ ns. all_of (take k lists) ++ ns) (append-nil notes)) in
    let both : count_in s i (all_of (take k lists) ++ notes) ≡ count_in s i (all_of (take k lists)) + count_in s i notes =
    sum_by-append (λ (note : Note). cond (place_index s note.place == i) 1 0) (all_of (take k lists)) notes in
    more ∙ (ap (λ m. m + count_in s i notes) before ∙ (sym both ∙ ap (count_in s i) (sym all)))

-- the numbers of one place more are added
pub place_added : (place count : ℕ) (first more counts now : List ℕ) → count ≡ get_or counts place 0 + get_or more place 0 → now ≡ set counts place count → place < length counts → get_or counts place 0 ≡ get_or first place 0
    → ((i : ℕ) → i < place → get_or counts i 0 ≡ get_or first i 0 + get_or more i 0) → (i : ℕ) → i < place + 1 → get_or now i 0 ≡ get_or first i 0 + get_or more i 0
place_added place count first more counts now sum put within left added i below =
    ap (λ ns. get_or ns i 0) put ∙ step (i == place) refl
  where
    step : (b : Bool) → (i == place) ≡ b → get_or (set counts place count) i 0 ≡ get_or first i 0 + get_or more i 0
    step true e =
        let here : i ≡ place = eqb-true i place e in
        get_or-set_at counts place i count 0 here within ∙ (sum ∙ (ap (λ n. n + get_or more place 0) left ∙ ap (λ j. get_or first j 0 + get_or more j 0) (sym here)))
    step false e = get_or-set_other counts place i count 0 (eqb-false i place e) ∙ added i (omega (arith, below, eqb-false i place e))

-- and those behind it are left
pub place_left : (place count : ℕ) (first counts now : List ℕ) → now ≡ set counts place count → ((i : ℕ) → place ≤ i → get_or counts i 0 ≡ get_or first i 0) → (i : ℕ) → place + 1 ≤ i → get_or now i 0 ≡ get_or first i 0
place_left place count first counts now put left i above =
    ap (λ ns. get_or ns i 0) put ∙ (get_or-set_other counts place i count 0 (omega (arith, above)) ∙ left i (omega (arith, above)))
