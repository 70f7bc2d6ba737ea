-- An element of a list, between those before and after it.
use Rattle.std.proofs.Common.{◌≡◌, ℕ, ◌+◌, ◌<◌, ◌≤◌, Bool, true, ◌&&◌, List, ◌∷◌, ◌++◌, length, ap, sym, ◌∙◌, arith, length-append}
use Rattle.std.specs.Prelude.{sum_by}
use Rattle.std.specs.List.{list_all}
use Rattle.std.proofs.lemmas.Bool.{and_parts}
use Rattle.std.proofs.lemmas.List.Folds.{list_all-append}
use Rattle.std.proofs.lemmas.List.Sums.{sum_by-append, sum_by-cons}

module _ {X : Type 0} (done : List X) (x : X) (later whole : List X) (is : done ++ x ∷ later ≡ whole) where
  pub among-below : length done < length whole
  among-below = let long : length done + length (x ∷ later) ≡ length whole = sym (length-append done (x ∷ later)) ∙ ap (λ (xs : List X). length xs) is in omega (arith, long)

  pub among-passes : (p : X → Bool) → list_all p whole ≡ true → p x ≡ true
  among-passes p h =
      let all : (list_all p done && (p x && list_all p later)) ≡ true = sym (list_all-append p done (x ∷ later)) ∙ (ap (list_all p) is ∙ h) in
      (and_parts (p x) (list_all p later) (and_parts (list_all p done) (p x && list_all p later) all).1).0

  pub among-sum : (f : X → ℕ) → sum_by f done + f x ≤ sum_by f whole
  among-sum f = let sum : sum_by f done + sum_by f (x ∷ later) ≡ sum_by f whole = sym (sum_by-append f done (x ∷ later)) ∙ ap (sum_by f) is in omega (arith, sum, sum_by-cons f x later)
