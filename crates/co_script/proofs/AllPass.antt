-- Lists of which all pass a test.
use Rattle.std.proofs.Common.{◌≡◌, ℕ, zero, suc, Bool, true, List, [], ◌∷◌, ◌++◌, length, refl, ◌∙◌}
use Rattle.std.specs.Prelude.{replicate}
use Rattle.std.specs.List.{list_all}
use Rattle.std.proofs.lemmas.Bool.{and_from}
use Rattle.std.proofs.lemmas.List.Folds.{list_all-append}

pub none-pass : {X : Type 0} (p : X → Bool) (xs : List X) → xs ≡ [] → list_all p xs ≡ true
none-pass p [] h = refl
none-pass p (x ∷ xs) h = cc

pub none-long : {X : Type 0} (xs : List X) → xs ≡ [] → length xs ≡ 0
none-long [] h = refl
none-long (x ∷ xs) h = cc

pub more-pass : {X : Type 0} (p : X → Bool) (xs ys : List X) → list_all p xs ≡ true → list_all p ys ≡ true → list_all p (xs ++ ys) ≡ true
more-pass p xs ys h k = list_all-append p xs ys ∙ and_from (list_all p xs) (list_all p ys) h k

pub one-passes : {X : Type 0} (p : X → Bool) (x : X) → p x ≡ true → list_all p (x ∷ []) ≡ true
one-passes p x h = and_from (p x) true h refl

pub copies-pass : {X : Type 0} (p : X → Bool) (n : ℕ) (x : X) → p x ≡ true → list_all p (replicate n x) ≡ true
copies-pass p zero x h = refl
copies-pass p (suc n) x h = and_from (p x) (list_all p (replicate n x)) h (copies-pass p n x h)

pub all-alike : {X : Type 0} (p q : X → Bool) → ((x : X) → p x ≡ q x) → (xs : List X) → list_all p xs ≡ list_all q xs
all-alike p q same [] = refl
all-alike p q same (x ∷ xs) = rw (same x, all-alike p q same xs) refl
