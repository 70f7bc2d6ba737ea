-- A list with one item more at its end.
use Rattle.std.proofs.Common.{◌≡◌, ℕ, zero, suc, ◌⊎◌, inl, inr, List, [], ◌∷◌, ◌++◌, length, refl, sym, ap, subst, ◌∙◌}
use Rattle.std.specs.Prelude.{Some, slice_get}

module _ {X : Type 0} where
  pub get_front : (xs : List X) (x y : X) (k : ℕ) → slice_get xs k ≡ Some y → slice_get (xs ++ x ∷ []) k ≡ Some y
  get_front [] x y k is = cc
  get_front (z ∷ xs) x y zero is = is
  get_front (z ∷ xs) x y (suc k) is = get_front xs x y k is

  pub get_last : (xs : List X) (x : X) → slice_get (xs ++ x ∷ []) (length xs) ≡ Some x
  get_last [] x = refl
  get_last (y ∷ xs) x = get_last xs x

  -- what stands there is the new one, at the end, or stood there before
  pub get_snoc : (xs : List X) (x y : X) (k : ℕ) → slice_get (xs ++ x ∷ []) k ≡ Some y → (slice_get xs k ≡ Some y) ⊎ ((k ≡ length xs) × (y ≡ x))
  get_snoc [] x y zero is = inr (refl, sym (some_same x y is)) where
    some_same : (a b : X) → Some a ≡ Some b → a ≡ b
    some_same a b e = cc
  get_snoc [] x y (suc k) is = cc
  get_snoc (z ∷ xs) x y zero is = inl is
  get_snoc (z ∷ xs) x y (suc k) is = on (get_snoc xs x y k is) where
    on : (slice_get xs k ≡ Some y) ⊎ ((k ≡ length xs) × (y ≡ x)) → (slice_get xs k ≡ Some y) ⊎ ((suc k ≡ suc (length xs)) × (y ≡ x))
    on (inl here) = inl here
    on (inr there) = inr (ap suc there.0, there.1)

  -- what holds of each item, and of one more behind them
  pub each_snoc : (P : X → Type 0) (xs : List X) (x : X) → ((k : ℕ) (y : X) → slice_get xs k ≡ Some y → P y) → P x → (k : ℕ) (y : X) → slice_get (xs ++ x ∷ []) k ≡ Some y → P y
  each_snoc P xs x each one k y is = at_either (get_snoc xs x y k is) where
    at_either : (slice_get xs k ≡ Some y) ⊎ ((k ≡ length xs) × (y ≡ x)) → P y
    at_either (inl here) = each k y here
    at_either (inr there) = subst P (sym there.1) one

  -- one more is taken of those that are left
  pub one_taken : (taken left rest all : List X) (x : X) → left ≡ x ∷ rest → taken ++ left ≡ all → (taken ++ x ∷ []) ++ rest ≡ all
  one_taken [] left rest all x is are = sym is ∙ are
  one_taken (y ∷ taken) left rest [] x is are = absurd cc
  one_taken (y ∷ taken) left rest (z ∷ all) x is are =
      let same : y ≡ z = cc in
      let tail : taken ++ left ≡ all = cc in
      ap (λ (l : List X). y ∷ l) (one_taken taken left rest all x is tail) ∙ ap (λ (w : X). w ∷ all) same
