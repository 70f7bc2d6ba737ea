-- Sums over the numbers below a bound, term by term.
use Rattle.std.proofs.Common.{◌≡◌, ◌≢◌, ℕ, zero, suc, ◌+◌, ◌<◌, inl, inr, List, [], ◌∷◌, map, refl, sym, subst, arith}
use Rattle.std.specs.Prelude.{sum_by}
use Rattle.std.specs.List.{range_with_len}
use Rattle.std.proofs.lemmas.Bool.{cases_eq}
use Rattle.std.proofs.lemmas.List.Sums.{sum_by-cons}
use Rattle.co_gen.proofs.Ranges.{sum-more}

abbrev sum_below : (ℕ → ℕ) → ℕ → ℕ
sum_below f n = sum_by f (range_with_len 0 n)

more-is : (n : ℕ) → n + 1 ≡ suc n
more-is n = omega arith

module _ (f g : ℕ → ℕ) where
  pub same-terms : (n : ℕ) → ((k : ℕ) → k < n → g k ≡ f k) → sum_below g n ≡ sum_below f n
  same-terms zero same = refl
  same-terms (suc n) same =
      subst (λ m. sum_below g m ≡ sum_below f m) (more-is n)
      (omega (arith, sum-more g n, sum-more f n, same-terms n (λ k below. same k (omega (arith, below))), same n (omega arith)))

  -- one term is larger
  pub one-larger : (j d n : ℕ) → j < n → g j ≡ f j + d → ((k : ℕ) → k ≢ j → g k ≡ f k) → sum_below g n ≡ sum_below f n + d
  one-larger j d zero below own other = absurd (omega (arith, below))
  one-larger j d (suc n) below own other = subst (λ m. sum_below g m ≡ sum_below f m + d) (more-is n) (elim (cases_eq n j) [
    | inl here ↦ last here
    | inr apart ↦ earlier apart (λ inside. one-larger j d n inside own other)
  ])
    where
      last : n ≡ j → sum_below g (n + 1) ≡ sum_below f (n + 1) + d
      last here =
          omega (
            arith,
            sum-more g n,
            sum-more f n,
            same-terms n (λ k k_below. other k (λ is. absurd (omega (arith, k_below, is, here)))),
            subst (λ k. g k ≡ f k + d) (sym here) own,
          )

      earlier : n ≢ j → (j < n → sum_below g n ≡ sum_below f n + d) → sum_below g (n + 1) ≡ sum_below f (n + 1) + d
      earlier apart before = omega (arith, sum-more g n, sum-more f n, before (omega (arith, below, apart)), other n apart)

pub sum-mapped : {X Y : Type 0} (f : X → Y) (g : Y → ℕ) (xs : List X) → sum_by g (map f xs) ≡ sum_by (λ x. g (f x)) xs
sum-mapped f g [] = refl
sum-mapped f g (x ∷ xs) = omega (arith, sum_by-cons g (f x) (map f xs), sum_by-cons (λ y. g (f y)) x xs, sum-mapped f g xs)

-- no terms
pub zero-terms : (f : ℕ → ℕ) (n : ℕ) → ((k : ℕ) → f k ≡ 0) → sum_below f n ≡ 0
zero-terms f zero none = refl
zero-terms f (suc n) none = subst (λ m. sum_below f m ≡ 0) (more-is n) (omega (arith, sum-more f n, zero-terms f n none, none n))
