-- Counts by number: before the first, and after one more.
use Rattle.std.proofs.Common.{◌≡◌, ◌≢◌, ℕ, zero, suc, ◌+◌, ◌<◌, ◌==◌, Bool, true, false, cond, inl, inr, set, get_or-set_same, get_or-set_other, List, [], ◌∷◌, ◌++◌, get_or, replicate, count_by, refl, ap, sym, ◌∙◌, arith}
use Rattle.std.proofs.lemmas.Bool.{cases_eq}
use Rattle.std.proofs.lemmas.Bool.Decides.{nat_tests}
use Rattle.std.proofs.lemmas.List.{length-replicate, length-set}
use Rattle.co_object.proofs.Passing.{passing, count-passing, passing-append}
use Rattle.co_order.specs.Merging.{AreCountsBy}

pub zero-at : (n k : ℕ) → ◌≡◌ {A = ℕ} (get_or (replicate n 0) k 0) 0
zero-at zero k = refl
zero-at (suc n) zero = refl
zero-at (suc n) (suc k) = zero-at n k

pub no_counts : {X : Type 0} (key : X → ℕ) (n : ℕ) → AreCountsBy key n [] (replicate n 0)
no_counts key n = record { long = length-replicate n 0; each = λ q below. zero-at n q }

module _ {X : Type 0} (p : X → Bool) (xs : List X) (x : X) where
  pub count_own : p x ≡ true → count_by p (xs ++ x ∷ []) ≡ count_by p xs + 1
  count_own own =
      let one : passing p (x ∷ []) ≡ 1 = ap (λ b. cond b 1 0 + 0) own in
      omega (arith, one, passing-append p xs (x ∷ []), count-passing p xs, count-passing p (xs ++ x ∷ []))

  pub count_other : p x ≡ false → count_by p (xs ++ x ∷ []) ≡ count_by p xs
  count_other other =
      let none : passing p (x ∷ []) ≡ 0 = ap (λ b. cond b 1 0 + 0) other in
      omega (arith, none, passing-append p xs (x ∷ []), count-passing p xs, count-passing p (xs ++ x ∷ []))

equal : (m n : ℕ) → m ≡ n → (m == n) ≡ true
equal m n h = grind (arith, nat_tests)

apart_is : (m n : ℕ) → m ≢ n → (m == n) ≡ false
apart_is m n h = grind (arith, nat_tests)

pub counted_more : {X : Type 0} (key : X → ℕ) (n : ℕ) (xs : List X) (x : X) (counts : List ℕ) (a : ℕ) → AreCountsBy key n xs counts → a ≡ key x → a < n
    → AreCountsBy key n (xs ++ x ∷ []) (set counts a (get_or counts a 0 + 1))
counted_more key n xs x counts a h is below = record {
  long = length-set counts a (get_or counts a 0 + 1) ∙ h.long;
  each = λ b b_below. elim (cases_eq b a) [
    | inl same ↦ ap (λ m. get_or (set counts a (get_or counts a 0 + 1)) m 0) same ∙ (own ∙ ap (λ m. count_by (λ y. key y == m) (xs ++ x ∷ [])) (sym same))
    | inr apart ↦ get_or-set_other counts a b (get_or counts a 0 + 1) 0 apart ∙ (h.each b b_below ∙ sym (count_other (λ y. key y == b) xs x (apart_is (key x) b (λ e. apart (sym e ∙ sym is)))))
  ];
}
  where
    own : get_or (set counts a (get_or counts a 0 + 1)) a 0 ≡ count_by (λ y. key y == a) (xs ++ x ∷ [])
    own = get_or-set_same counts a (get_or counts a 0 + 1) 0 (omega (arith, below, h.long))
        ∙ (ap (λ m. m + 1) (h.each a below)
        ∙ sym (count_own (λ y. key y == a) xs x (equal (key x) a (sym is))))
