-- Lists made of numbers in a row: one more number, tests of all, lengths and sums.
use Rattle.std.proofs.Common.{◌≡◌, ℕ, zero, suc, ◌+◌, ◌*◌, ◌<◌, ◌≤◌, Bool, true, ◌&&◌, List, [], ◌∷◌, ◌++◌, map, length, refl, ap, sym, ◌∙◌, arith, length-append, append_assoc, append-nil}
use Rattle.std.specs.Prelude.{sum_by}
use Rattle.std.specs.List.{range_with_len, flat_map, list_all}
use Rattle.std.proofs.lemmas.List.Sums.{sum_by-append, sum_by-cons}
use Rattle.std.proofs.lemmas.List.Folds.{list_all-append}

pub range-more : (a n : ℕ) → range_with_len a (n + 1) ≡ range_with_len a n ++ (a + n) ∷ []
range-more a zero = let e : a ≡ a + 0 = omega arith in ap (λ k. k ∷ []) e
range-more a (suc n) =
    let e : suc n + 1 ≡ suc (n + 1) = omega arith in
    let f : (a + 1) + n ≡ a + suc n = omega arith in
    ap (λ k. range_with_len a k) e ∙ ap (λ ks. a ∷ ks) (range-more (a + 1) n ∙ ap (λ k. range_with_len (a + 1) n ++ k ∷ []) f)

pub from-zero : (n : ℕ) → range_with_len 0 (n + 1) ≡ range_with_len 0 n ++ n ∷ []
from-zero n = let e : 0 + n ≡ n = omega arith in range-more 0 n ∙ ap (λ k. range_with_len 0 n ++ k ∷ []) e

module _ {X : Type 0} where
  flat_map-push : (f : ℕ → List X) (ks : List ℕ) (k : ℕ) → flat_map f (ks ++ k ∷ []) ≡ flat_map f ks ++ f k
  flat_map-push f [] k = append-nil (f k)
  flat_map-push f (j ∷ ks) k = ap (λ xs. f j ++ xs) (flat_map-push f ks k) ∙ sym (append_assoc (f j) (flat_map f ks) (f k))

  map-push : (f : ℕ → X) (ks : List ℕ) (k : ℕ) → map f (ks ++ k ∷ []) ≡ map f ks ++ f k ∷ []
  map-push f [] k = refl
  map-push f (j ∷ ks) k = ap (λ xs. f j ∷ xs) (map-push f ks k)

  -- one more part
  pub parts-more : (f : ℕ → List X) (n : ℕ) → flat_map f (range_with_len 0 (n + 1)) ≡ flat_map f (range_with_len 0 n) ++ f n
  parts-more f n = ap (flat_map f) (from-zero n) ∙ flat_map-push f (range_with_len 0 n) n

  -- one more item
  pub items-more : (f : ℕ → X) (n : ℕ) → map f (range_with_len 0 (n + 1)) ≡ map f (range_with_len 0 n) ++ f n ∷ []
  items-more f n = ap (map f) (from-zero n) ∙ map-push f (range_with_len 0 n) n

-- one more term
pub sum-more : (f : ℕ → ℕ) (n : ℕ) → sum_by f (range_with_len 0 (n + 1)) ≡ sum_by f (range_with_len 0 n) + f n
sum-more f n =
    let more : sum_by f (range_with_len 0 (n + 1)) ≡ sum_by f (range_with_len 0 n ++ n ∷ []) = ap (sum_by f) (from-zero n) in
    let last : sum_by f (n ∷ []) ≡ f n + sum_by f [] = sum_by-cons f n [] in
    omega (arith, more, sum_by-append f (range_with_len 0 n) (n ∷ []), last)

-- ---- tests

pub both : {a b : Bool} → a ≡ true → b ≡ true → (a && b) ≡ true
both {a} {b} h k = ap (λ x. x && b) h ∙ k

module _ {X : Type 0} (p : X → Bool) where
  pub all-append : (xs ys : List X) → list_all p xs ≡ true → list_all p ys ≡ true → list_all p (xs ++ ys) ≡ true
  all-append xs ys h k = list_all-append p xs ys ∙ both h k

  -- all items of numbers below a bound pass
  pub all-items : (f : ℕ → X) (bound a n : ℕ) → a + n ≤ bound → ((k : ℕ) → k < bound → p (f k) ≡ true) → list_all p (map f (range_with_len a n)) ≡ true
  all-items f bound a zero inside each = refl
  all-items f bound a (suc n) inside each = both (each a (omega (arith, inside))) (all-items f bound (a + 1) n (omega (arith, inside)) each)

  -- all items of all parts of numbers below a bound pass
  pub all-parts : (f : ℕ → List X) (bound a n : ℕ) → a + n ≤ bound → ((k : ℕ) → k < bound → list_all p (f k) ≡ true) → list_all p (flat_map f (range_with_len a n)) ≡ true
  all-parts f bound a zero inside each = refl
  all-parts f bound a (suc n) inside each =
      all-append (f a) (flat_map f (range_with_len (a + 1) n)) (each a (omega (arith, inside))) (all-parts f bound (a + 1) n (omega (arith, inside)) each)

-- ---- lengths

pub length-parts : {X : Type 0} (f : ℕ → List X) (most a n : ℕ) → ((k : ℕ) → length (f k) ≤ most) → length (flat_map f (range_with_len a n)) ≤ n * most
length-parts f most a zero each = omega arith
length-parts f most a (suc n) each =
    let rest = length-parts f most (a + 1) n each in
    let more : suc n * most ≡ most + n * most = omega arith in
    omega (arith, each a, rest, more, length-append (f a) (flat_map f (range_with_len (a + 1) n)))

pub sum-lengths : {X : Type 0} (f : ℕ → List X) (most a n : ℕ) → ((k : ℕ) → length (f k) ≤ most) → sum_by length (map f (range_with_len a n)) ≤ n * most
sum-lengths f most a zero each = omega arith
sum-lengths f most a (suc n) each =
    let rest = sum-lengths f most (a + 1) n each in
    let more : suc n * most ≡ most + n * most = omega arith in
    omega (arith, each a, rest, more, sum_by-cons length (f a) (map f (range_with_len (a + 1) n)))

-- one more item, pushed
pub pushed : {X : Type 0} (f : ℕ → X) (n : ℕ) (old new : List X) (x : X) → old ≡ map f (range_with_len 0 n) → x ≡ f n → new ≡ old ++ x ∷ [] → new ≡ map f (range_with_len 0 (n + 1))
pushed f n old new x was this is = is ∙ (ap (λ xs. xs ++ x ∷ []) was ∙ (ap (λ y. map f (range_with_len 0 n) ++ y ∷ []) this ∙ sym (items-more f n)))
