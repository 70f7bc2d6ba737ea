-- A list that is taken out of the lists and put back.
use Rattle.std.proofs.Common.{◌≡◌, ℕ, zero, suc, List, [], ◌∷◌, set, refl, sym, ap, ◌∙◌, Some}
use Rattle.std.specs.List.{slice_get}

pub set_twice : {X : Type 0} (xs : List X) (i : ℕ) (x y : X) → set (set xs i x) i y ≡ set xs i y
set_twice [] i x y = refl
set_twice (z ∷ xs) zero x y = refl
set_twice (z ∷ xs) (suc i) x y = ap (λ ys. z ∷ ys) (set_twice xs i x y)

set_same : {X : Type 0} (xs : List X) (i : ℕ) (x : X) → slice_get xs i ≡ Some x → set xs i x ≡ xs
set_same [] i x is = refl
set_same (z ∷ xs) zero x is = ap (λ y. y ∷ xs) (let e : Some z ≡ Some x = is in let f : z ≡ x = cc in sym f)
set_same (z ∷ xs) (suc i) x is = ap (λ ys. z ∷ ys) (set_same xs i x is)

-- what was taken out is put back
pub put_back : {X : Type 0} (xs ys : List X) (i : ℕ) (x y z : X) → slice_get xs i ≡ Some x → ys ≡ set xs i y → z ≡ x → set ys i z ≡ xs
put_back xs ys i x y z is taken back = ap (λ l. set l i z) taken ∙ set_twice xs i y z ∙ ap (set xs i) back ∙ set_same xs i x is
