-- A function with one value replaced, and choices.
use Rattle.std.proofs.Common.{◌≡◌, ℕ, Bool, true, false, cond, inl, inr, refl, ap, subst, sym, eqb-true, eq-eqb}
use Rattle.std.specs.Prelude.{◌==◌}
use Rattle.std.proofs.lemmas.Bool.Decides.{eqb_tells}
use Rattle.co_world.specs.World.{updated}

-- what holds of both values of a choice holds of it
pub cond_kept : {X : Type 0} (P : X → Type 0) (b : Bool) (x y : X) → P x → P y → P (cond b x y)
cond_kept P true x y p q = p
cond_kept P false x y p q = q

pub at_choice : {X : Type 0} (P : X → Type 0) (b : Bool) (x y : X) → (b ≡ true → P x) → (b ≡ false → P y) → P (cond b x y)
at_choice P true x y p q = p refl
at_choice P false x y p q = q refl

-- what holds of the new value at its number, and of the old ones, holds of all
pub at_updated : {X : Type 0} (P : ℕ → X → Type 0) (f : ℕ → X) (i : ℕ) (x : X) (j : ℕ) → P i x → P j (f j) → P j (updated f i x j)
at_updated P f i x j new old = at_choice (P j) (j == i) x (f j) (λ e. subst (λ (k : ℕ). P k x) (sym (eqb-true j i e)) new) (λ e. old)

pub updated_here : {X : Type 0} (f : ℕ → X) (i : ℕ) (x : X) → updated f i x i ≡ x
updated_here f i x = ap (λ b. cond b x (f i)) (eq-eqb i i refl)

pub updated_elsewhere : {X : Type 0} (f : ℕ → X) (i : ℕ) (x : X) (j : ℕ) → (j ≡ i → ⊥) → updated f i x j ≡ f j
updated_elsewhere f i x j other = at_choice (λ y. y ≡ f j) (j == i) x (f j) (λ e. absurd (other (eqb-true j i e))) (λ e. refl)

-- what holds after the replacement held before, if it did at that number
pub from_updated : {X : Type 0} (P : ℕ → X → Type 0) (f : ℕ → X) (i : ℕ) (x : X) → ((j : ℕ) → P j (updated f i x j)) → (P i x → P i (f i)) → (j : ℕ) → P j (f j)
from_updated P f i x all back j =
    elim (eqb_tells j i) [
      | inl same ↦ subst (λ (k : ℕ). P k (f k)) (sym same.1) (back (subst (P i) (updated_here f i x) (all i)))
      | inr other ↦ subst (P j) (updated_elsewhere f i x j other.1) (all j)
    ]
