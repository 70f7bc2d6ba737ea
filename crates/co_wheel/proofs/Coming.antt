-- Callouts come to a wheel one after the other.
use Rattle.std.proofs.Common.{◌≡◌, ℕ, zero, suc, ◌+◌, false, List, [], ◌∷◌, length, replicate, get_or, set, map, refl, ap, sym, ◌∙◌, add-one}
use Rattle.std.specs.declared.option.Option.{Option}
use Rattle.std.specs.declared.option.Option.TheVariants.{None}
use Rattle.co_object.specs.declared.alone.Alone.{Alone}
use Rattle.co_object.specs.declared.spec.Spec.{Spec}
use Rattle.co_object.specs.declared.spec.LockUse.TheVariants.{Free}
use Rattle.co_wheel.specs.Callouts.{new_callout}

abbrev plain_spec : Spec
plain_spec = record { lock = Free; returns_unlocked = false; direct = false }

-- the first k callouts are here
abbrev pub partly : List Spec → ℕ → List (Option Alone)
partly [] k = []
partly (spec ∷ specs) zero = None ∷ partly specs zero
partly (spec ∷ specs) (suc k) = new_callout spec ∷ partly specs k

pub partly-none : (specs : List Spec) → replicate (length specs) None ≡ partly specs 0
partly-none [] = refl
partly-none (spec ∷ specs) = ap (λ (xs : List (Option Alone)). None ∷ xs) (partly-none specs)

one-more : (specs : List Spec) (k : ℕ) → set (partly specs k) k (new_callout (get_or specs k plain_spec)) ≡ partly specs (suc k)
one-more [] k = refl
one-more (spec ∷ specs) zero = refl
one-more (spec ∷ specs) (suc k) = ap (λ (xs : List (Option Alone)). new_callout spec ∷ xs) (one-more specs k)

pub partly-more : (specs : List Spec) (k : ℕ) → set (partly specs k) k (new_callout (get_or specs k plain_spec)) ≡ partly specs (k + 1)
partly-more specs k = one-more specs k ∙ ap (partly specs) (sym (add-one k))

pub partly-all : (specs : List Spec) → partly specs (length specs) ≡ map new_callout specs
partly-all [] = refl
partly-all (spec ∷ specs) = ap (λ (xs : List (Option Alone)). new_callout spec ∷ xs) (partly-all specs)

pub partly-long : (specs : List Spec) (k : ℕ) → length (partly specs k) ≡ length specs
partly-long [] k = refl
partly-long (spec ∷ specs) zero = ap suc (partly-long specs zero)
partly-long (spec ∷ specs) (suc k) = ap suc (partly-long specs k)

pub partly-absent : (specs : List Spec) (k : ℕ) → get_or (partly specs k) k None ≡ None
partly-absent [] k = refl
partly-absent (spec ∷ specs) zero = refl
partly-absent (spec ∷ specs) (suc k) = partly-absent specs k
