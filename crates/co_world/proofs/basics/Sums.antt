-- Sums over the numbers of a range, and what one of the terms changes of them.
use Rattle.std.proofs.Common.{◌≡◌, ℕ, zero, suc, ◌+◌, ◌*◌, ◌≤◌, ◌<◌, ◌⊎◌, inl, inr, refl, ap, sym, arith}
use Rattle.std.proofs.Math.Nat.{suc-mul}
use Rattle.std.specs.List.{range_with_len, sum_by}
use Rattle.std.proofs.lemmas.List.Sums.{sum_by-cons}
use Rattle.co_world.proofs.basics.Changes.{decide}
use Rattle.co_world.proofs.basics.Ranges.{above}

-- the sum of n terms from the k-th on
abbrev pub total : (ℕ → ℕ) → ℕ → ℕ → ℕ
total f k n = sum_by f (range_with_len k n)

total_more : (f : ℕ → ℕ) (k n : ℕ) → total f k (suc n) ≡ f k + total f (k + 1) n
total_more f k n = sum_by-cons f k (range_with_len (k + 1) n)

pub total_of_ones : (k n : ℕ) → total (λ b. 1) k n ≡ n
total_of_ones k zero = refl
total_of_ones k (suc n) = omega (arith, total_more (λ b. 1) k n, total_of_ones (k + 1) n)

pub total_of_zeros : (k n : ℕ) → total (λ b. 0) k n ≡ 0
total_of_zeros k zero = refl
total_of_zeros k (suc n) = omega (arith, total_more (λ b. 0) k n, total_of_zeros (k + 1) n)

-- no term is more than e above the other
module _ (f g e : ℕ → ℕ) where
  pub total_above : (k n : ℕ) → ((b : ℕ) → k ≤ b → g b ≤ f b + e b) → total g k n ≤ total f k n + total e k n
  total_above k zero each = omega arith
  total_above k (suc n) each = omega (arith, total_more f k n, total_more g k n, total_more e k n, each k (omega arith), total_above (k + 1) n (λ b low. each b (omega arith)))

  -- but for one of them
  pub total_at : (k n a : ℕ) → k ≤ a → a < k + n → ((b : ℕ) → (b ≡ a → ⊥) → g b ≤ f b + e b) → total g k n + f a ≤ total f k n + total e k n + g a
  total_at k zero a low high each = absurd (omega arith)
  total_at k (suc n) a low high each = go (decide a k) (λ later. total_at (k + 1) n a later (omega arith) each) where
    go : (a ≡ k) ⊎ (a ≡ k → ⊥) → (k + 1 ≤ a → total g (k + 1) n + f a ≤ total f (k + 1) n + total e (k + 1) n + g a) → total g k (suc n) + f a ≤ total f k (suc n) + total e k (suc n) + g a
    go (inl same) rest =
        let old : f a ≡ f k = ap f same in
        let new : g a ≡ g k = ap g same in
        omega (arith, total_more f k n, total_more g k n, total_more e k n, old, new, total_above (k + 1) n (λ b after. each b (λ is. absurd (omega arith))))
    go (inr other) rest =
        omega (arith, total_more f k n, total_more g k n, total_more e k n, each k (λ is. other (sym is)), rest (above k a low other))

pub total_of_both : (f g : ℕ → ℕ) (k n : ℕ) → total (λ b. f b + g b) k n ≡ total f k n + total g k n
total_of_both f g k zero = refl
total_of_both f g k (suc n) = omega (arith, total_more (λ b. f b + g b) k n, total_more f k n, total_more g k n, total_of_both f g (k + 1) n)

pub total_most : (f : ℕ → ℕ) (most : ℕ) → ((b : ℕ) → f b ≤ most) → (k n : ℕ) → total f k n ≤ n * most
total_most f most each k zero = omega arith
total_most f most each k (suc n) = omega (arith, total_more f k n, each k, total_most f most each (k + 1) n, suc-mul n most)
