-- What holds of each number of a range, and whether some number of it passes a test.
use Rattle.std.proofs.Common.{◌≡◌, ℕ, zero, suc, ◌+◌, ◌≤◌, ◌<◌, ◌⊎◌, inl, inr, Bool, true, false, refl, sym, ap, ◌∙◌, subst, arith, ltb-true, ltb-false}
use Rattle.std.specs.Prelude.{◌||◌, nat_lt}
use Rattle.std.specs.List.{list_any, range_with_len, AllByRecursion}
use Rattle.co_world.proofs.basics.Changes.{decide}

pub above : (k a : ℕ) → k ≤ a → (a ≡ k → ⊥) → k + 1 ≤ a
above k a low other = go (nat_lt k a) refl where
  go : (b : Bool) → nat_lt k a ≡ b → k + 1 ≤ a
  go true e = let h : k < a = ltb-true k a e in omega arith
  go false e = absurd (other (let h : a ≤ k = ltb-false k a e in omega arith))

-- ---- each

pub all_range : (P : ℕ → Type 0) (k n : ℕ) → ((a : ℕ) → a < k + n → P a) → AllByRecursion P (range_with_len k n)
all_range P k zero h = tt
all_range P k (suc n) h = (h k (omega arith), all_range P (k + 1) n (λ a within. h a (omega arith)))

pub at_range : (P : ℕ → Type 0) (k n a : ℕ) → AllByRecursion P (range_with_len k n) → k ≤ a → a < k + n → P a
at_range P k zero a all low high = absurd (omega arith)
at_range P k (suc n) a all low high = go (decide a k) (λ above. at_range P (k + 1) n a all.1 above (omega arith)) where
  go : (a ≡ k) ⊎ (a ≡ k → ⊥) → (k + 1 ≤ a → P a) → P a
  go (inl same) rest = subst P (sym same) all.0
  go (inr other) rest = rest (above k a low other)

-- ---- any

pub any_same : (p q : ℕ → Bool) (k n : ℕ) → ((b : ℕ) → k ≤ b → b < k + n → q b ≡ p b) → list_any q (range_with_len k n) ≡ list_any p (range_with_len k n)
any_same p q k zero all = refl
any_same p q k (suc n) all =
    let head : q k ≡ p k = all k (omega arith) (omega arith) in
    let tail : list_any q (range_with_len (k + 1) n) ≡ list_any p (range_with_len (k + 1) n) = any_same p q (k + 1) n (λ b low high. all b (omega arith) (omega arith)) in
    ap (λ x. x || list_any q (range_with_len (k + 1) n)) head ∙ ap (λ x. p k || x) tail

pub any_at : (p : ℕ → Bool) (k n a : ℕ) → k ≤ a → a < k + n → p a ≡ true → list_any p (range_with_len k n) ≡ true
any_at p k zero a low high is = absurd (omega arith)
any_at p k (suc n) a low high is = go (decide a k) (λ other. any_at p (k + 1) n a (above k a low other) (omega arith) is) where
  right : (x : Bool) → (x || true) ≡ true
  right true = refl
  right false = refl

  go : (a ≡ k) ⊎ (a ≡ k → ⊥) → ((a ≡ k → ⊥) → list_any p (range_with_len (k + 1) n) ≡ true) → (p k || list_any p (range_with_len (k + 1) n)) ≡ true
  go (inl own) rest = ap (λ x. x || list_any p (range_with_len (k + 1) n)) (subst (λ j. p j ≡ true) own is)
  go (inr other) rest = ap (λ x. p k || x) (rest other) ∙ right (p k)

-- none but one of them
pub any_only : (p : ℕ → Bool) (k n a : ℕ) → k ≤ a → a < k + n → ((b : ℕ) → (b ≡ a → ⊥) → k ≤ b → b < k + n → p b ≡ false) → list_any p (range_with_len k n) ≡ p a
any_only p k n a low high none = go (p a) refl where
  none_at : (k n : ℕ) → ((b : ℕ) → k ≤ b → b < k + n → p b ≡ false) → list_any p (range_with_len k n) ≡ false
  none_at k zero all = refl
  none_at k (suc n) all =
      let head : p k ≡ false = all k (omega arith) (omega arith) in
      let tail : list_any p (range_with_len (k + 1) n) ≡ false = none_at (k + 1) n (λ b low high. all b (omega arith) (omega arith)) in
      ap (λ x. x || list_any p (range_with_len (k + 1) n)) head ∙ tail

  go : (x : Bool) → p a ≡ x → list_any p (range_with_len k n) ≡ x
  go true is = any_at p k n a low high is
  go false is = none_at k n (λ b low' high'. all b low' high' (decide b a)) where
    all : (b : ℕ) → k ≤ b → b < k + n → (b ≡ a) ⊎ (b ≡ a → ⊥) → p b ≡ false
    all b low' high' (inl own) = ap p own ∙ is
    all b low' high' (inr other) = none b other low' high'

-- some one of them
pub any_found : (p : ℕ → Bool) (k n : ℕ) → list_any p (range_with_len k n) ≡ true → (b : ℕ) × (b < k + n) × (p b ≡ true)
any_found p k zero is = cc
any_found p k (suc n) is = go (p k) refl is (λ rest. any_found p (k + 1) n rest) where
  go : (x : Bool) → p k ≡ x → (x || list_any p (range_with_len (k + 1) n)) ≡ true → (list_any p (range_with_len (k + 1) n) ≡ true → (b : ℕ) × (b < k + 1 + n) × (p b ≡ true)) → (b : ℕ) × (b < k + suc n) × (p b ≡ true)
  go true here is rest = (k, omega arith, here)
  go false here is rest = let found = rest is in let low = found.1 in (found.0, omega (arith, low), found.2)
