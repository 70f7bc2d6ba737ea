-- How many of a list's entries are counted, where one of them changes.
use Rattle.std.proofs.Common.{◌≡◌, ◌≢◌, ℕ, zero, suc, ◌+◌, ◌<◌, ◌≤◌, Bool, true, false, cond, List, [], ◌∷◌, length, get_or, refl, ap, sym, ◌∙◌, arith, count_by}
use Rattle.std.proofs.lemmas.List.Sums.{sum_by-cons}
use Rattle.co_object.specs.declared.note.Entry.{Entry}
use Rattle.co_single.specs.Alarms.{gos, all_gos}

abbrev pub one_if : Bool → ℕ
one_if b = cond b 1 0

module _ {X : Type 0} where
  pub count_same : (f : X → Bool) (d : X) (xs ys : List X) → length ys ≡ length xs → ((j : ℕ) → f (get_or ys j d) ≡ f (get_or xs j d)) → count_by f ys ≡ count_by f xs
  count_same f d [] [] e h = refl
  count_same f d [] (y ∷ ys) e h = absurd (omega (arith, e))
  count_same f d (x ∷ xs) [] e h = absurd (omega (arith, e))
  count_same f d (x ∷ xs) (y ∷ ys) e h =
      let a = sum_by-cons (λ v. one_if (f v)) x xs in
      let b = sum_by-cons (λ v. one_if (f v)) y ys in
      let head : one_if (f y) ≡ one_if (f x) = ap one_if (h 0) in
      omega (arith, a, b, head, count_same f d xs ys (omega (arith, e)) (λ j. h (suc j)))

  pub count_changed : (f : X → Bool) (d : X) (xs ys : List X) (i : ℕ) → i < length xs → length ys ≡ length xs → ((j : ℕ) → j ≢ i → get_or ys j d ≡ get_or xs j d)
      → count_by f ys + one_if (f (get_or xs i d)) ≡ count_by f xs + one_if (f (get_or ys i d))
  count_changed f d [] ys i low e h = absurd (omega (arith, low))
  count_changed f d (x ∷ xs) [] i low e h = absurd (omega (arith, e))
  count_changed f d (x ∷ xs) (y ∷ ys) zero low e h =
      let a = sum_by-cons (λ v. one_if (f v)) x xs in
      let b = sum_by-cons (λ v. one_if (f v)) y ys in
      let rest = count_same f d xs ys (omega (arith, e)) (λ j. ap f (h (suc j) (λ is. omega (arith, is)))) in
      omega (arith, a, b, rest)
  count_changed f d (x ∷ xs) (y ∷ ys) (suc i) low e h =
      let a = sum_by-cons (λ v. one_if (f v)) x xs in
      let b = sum_by-cons (λ v. one_if (f v)) y ys in
      let head : one_if (f y) ≡ one_if (f x) = ap (λ v. one_if (f v)) (h 0 (λ is. omega (arith, is))) in
      let rest = count_changed f d xs ys i (omega (arith, low)) (omega (arith, e)) (λ j differs. h (suc j) (λ is. differs (omega (arith, is)))) in
      omega (arith, a, b, head, rest)

  pub count_twice : (f g : X → Bool) (d : X) (xs : List X) → ((j : ℕ) → f (get_or xs j d) ≡ g (get_or xs j d)) → count_by f xs ≡ count_by g xs
  count_twice f g d [] h = refl
  count_twice f g d (x ∷ xs) h =
      let a = sum_by-cons (λ v. one_if (f v)) x xs in
      let b = sum_by-cons (λ v. one_if (g v)) x xs in
      let head : one_if (f x) ≡ one_if (g x) = ap one_if (h 0) in
      omega (arith, a, b, head, count_twice f g d xs (λ j. h (suc j)))

  -- a test that finds one entry more
  pub count_one_more : (f g : X → Bool) (d : X) (xs : List X) (i : ℕ) → i < length xs → f (get_or xs i d) ≡ true → g (get_or xs i d) ≡ false
      → ((j : ℕ) → j ≢ i → f (get_or xs j d) ≡ g (get_or xs j d)) → count_by f xs ≡ count_by g xs + 1
  count_one_more f g d [] i low yes_f no_g h = absurd (omega (arith, low))
  count_one_more f g d (x ∷ xs) zero low yes_f no_g h =
      let a = sum_by-cons (λ v. one_if (f v)) x xs in
      let b = sum_by-cons (λ v. one_if (g v)) x xs in
      let one : one_if (f x) ≡ 1 = ap one_if yes_f in
      let none : one_if (g x) ≡ 0 = ap one_if no_g in
      omega (arith, a, b, one, none, count_twice f g d xs (λ j. h (suc j) (λ is. omega (arith, is))))
  count_one_more f g d (x ∷ xs) (suc i) low yes_f no_g h =
      let a = sum_by-cons (λ v. one_if (f v)) x xs in
      let b = sum_by-cons (λ v. one_if (g v)) x xs in
      let head : one_if (f x) ≡ one_if (g x) = ap one_if (h 0 (λ is. omega (arith, is))) in
      omega (arith, a, b, head, count_one_more f g d xs i (omega (arith, low)) yes_f no_g (λ j differs. h (suc j) (λ is. differs (omega (arith, is)))))

  -- of two lists that end where all that follows is not counted, and that differ in one place alone
  count_none : (f : X → Bool) (d : X) → f d ≡ false → (ys : List X) → ((j : ℕ) → get_or ys j d ≡ d) → count_by f ys ≡ 0
  count_none f d unlike [] h = refl
  count_none f d unlike (y ∷ ys) h =
      let b = sum_by-cons (λ v. one_if (f v)) y ys in
      let head : one_if (f y) ≡ 0 = ap (λ v. one_if (f v)) (h 0) ∙ ap one_if unlike in
      omega (arith, b, head, count_none f d unlike ys (λ j. h (suc j)))

  pub count_alike : (f : X → Bool) (d : X) → f d ≡ false → (xs ys : List X) → ((j : ℕ) → get_or ys j d ≡ get_or xs j d) → count_by f ys ≡ count_by f xs
  count_alike f d unlike [] ys h = count_none f d unlike ys h
  count_alike f d unlike (x ∷ xs) [] h = sym (count_none f d unlike (x ∷ xs) (λ j. sym (h j)))
  count_alike f d unlike (x ∷ xs) (y ∷ ys) h =
      let a = sum_by-cons (λ v. one_if (f v)) x xs in
      let b = sum_by-cons (λ v. one_if (f v)) y ys in
      let head : one_if (f y) ≡ one_if (f x) = ap (λ v. one_if (f v)) (h 0) in
      omega (arith, a, b, head, count_alike f d unlike xs ys (λ j. h (suc j)))

  pub count_apart : (f : X → Bool) (d : X) → f d ≡ false → (xs ys : List X) (i : ℕ) → ((j : ℕ) → j ≢ i → get_or ys j d ≡ get_or xs j d)
      → count_by f ys + one_if (f (get_or xs i d)) ≡ count_by f xs + one_if (f (get_or ys i d))
  count_apart f d unlike [] [] i h = refl
  count_apart f d unlike [] (y ∷ ys) zero h =
      let b = sum_by-cons (λ v. one_if (f v)) y ys in
      let none : one_if (f d) ≡ 0 = ap one_if unlike in
      omega (arith, b, none, count_none f d unlike ys (λ j. h (suc j) (λ is. omega (arith, is))))
  count_apart f d unlike [] (y ∷ ys) (suc i) h =
      let b = sum_by-cons (λ v. one_if (f v)) y ys in
      let head : one_if (f y) ≡ one_if (f d) = ap (λ v. one_if (f v)) (h 0 (λ is. omega (arith, is))) in
      let none : one_if (f d) ≡ 0 = ap one_if unlike in
      let rest = count_apart f d unlike [] ys i (λ j differs. h (suc j) (λ is. differs (omega (arith, is)))) in
      omega (arith, b, head, none, rest)
  count_apart f d unlike (x ∷ xs) [] zero h =
      let a = sum_by-cons (λ v. one_if (f v)) x xs in
      let none : one_if (f d) ≡ 0 = ap one_if unlike in
      omega (arith, a, none, count_none f d unlike xs (λ j. sym (h (suc j) (λ is. omega (arith, is)))))
  count_apart f d unlike (x ∷ xs) [] (suc i) h =
      let a = sum_by-cons (λ v. one_if (f v)) x xs in
      let head : one_if (f d) ≡ one_if (f x) = ap (λ v. one_if (f v)) (h 0 (λ is. omega (arith, is))) in
      let none : one_if (f d) ≡ 0 = ap one_if unlike in
      let rest = count_apart f d unlike xs [] i (λ j differs. h (suc j) (λ is. differs (omega (arith, is)))) in
      omega (arith, a, head, none, rest)
  count_apart f d unlike (x ∷ xs) (y ∷ ys) zero h =
      let a = sum_by-cons (λ v. one_if (f v)) x xs in
      let b = sum_by-cons (λ v. one_if (f v)) y ys in
      omega (arith, a, b, count_alike f d unlike xs ys (λ j. h (suc j) (λ is. omega (arith, is))))
  count_apart f d unlike (x ∷ xs) (y ∷ ys) (suc i) h =
      let a = sum_by-cons (λ v. one_if (f v)) x xs in
      let b = sum_by-cons (λ v. one_if (f v)) y ys in
      let head : one_if (f y) ≡ one_if (f x) = ap (λ v. one_if (f v)) (h 0 (λ is. omega (arith, is))) in
      let rest = count_apart f d unlike xs ys i (λ j differs. h (suc j) (λ is. differs (omega (arith, is)))) in
      omega (arith, a, b, head, rest)

  -- a test that passes no more than another, and not this one
  count_most : (f g : X → Bool) → ((x : X) → one_if (f x) ≤ one_if (g x)) → (xs : List X) → count_by f xs ≤ count_by g xs
  count_most f g h [] = omega arith
  count_most f g h (x ∷ xs) =
      let a = sum_by-cons (λ v. one_if (f v)) x xs in
      let b = sum_by-cons (λ v. one_if (g v)) x xs in
      omega (arith, a, b, h x, count_most f g h xs)

  pub count_fewer : (f g : X → Bool) (d : X) → ((x : X) → one_if (f x) ≤ one_if (g x)) → (xs : List X) (i : ℕ) → i < length xs → one_if (f (get_or xs i d)) < one_if (g (get_or xs i d)) → count_by f xs < count_by g xs
  count_fewer f g d h [] i low less = absurd (omega (arith, low))
  count_fewer f g d h (x ∷ xs) zero low less =
      let a = sum_by-cons (λ v. one_if (f v)) x xs in
      let b = sum_by-cons (λ v. one_if (g v)) x xs in
      omega (arith, a, b, less, count_most f g h xs)
  count_fewer f g d h (x ∷ xs) (suc i) low less =
      let a = sum_by-cons (λ v. one_if (f v)) x xs in
      let b = sum_by-cons (λ v. one_if (g v)) x xs in
      omega (arith, a, b, h x, count_fewer f g d h xs i (omega (arith, low)) less)

-- how often all callouts fired
pub gos_same : (xs ys : List (List Entry)) → length ys ≡ length xs → ((j : ℕ) → gos (get_or ys j []) ≡ gos (get_or xs j [])) → all_gos ys ≡ all_gos xs
gos_same [] [] e h = refl
gos_same [] (y ∷ ys) e h = absurd (omega (arith, e))
gos_same (x ∷ xs) [] e h = absurd (omega (arith, e))
gos_same (x ∷ xs) (y ∷ ys) e h =
    let head : gos y ≡ gos x = h 0 in
    omega (arith, head, gos_same xs ys (omega (arith, e)) (λ j. h (suc j)))

pub gos_one_more : (xs ys : List (List Entry)) (i : ℕ) → i < length xs → length ys ≡ length xs → gos (get_or ys i []) ≡ gos (get_or xs i []) + 1
    → ((j : ℕ) → j ≢ i → gos (get_or ys j []) ≡ gos (get_or xs j [])) → all_gos ys ≡ all_gos xs + 1
gos_one_more [] ys i low e one h = absurd (omega (arith, low))
gos_one_more (x ∷ xs) [] i low e one h = absurd (omega (arith, e))
gos_one_more (x ∷ xs) (y ∷ ys) zero low e one h =
    let head : gos y ≡ gos x + 1 = one in
    omega (arith, head, gos_same xs ys (omega (arith, e)) (λ j. h (suc j) (λ is. omega (arith, is))))
gos_one_more (x ∷ xs) (y ∷ ys) (suc i) low e one h =
    let head : gos y ≡ gos x = h 0 (λ is. omega (arith, is)) in
    omega (arith, head, gos_one_more xs ys i (omega (arith, low)) (omega (arith, e)) one (λ j differs. h (suc j) (λ is. differs (omega (arith, is)))))
