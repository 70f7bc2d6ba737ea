-- A list cut at a place, and what giving out clears.
use Rattle.std.proofs.Common.{◌≡◌, ℕ, zero, suc, ◌+◌, ◌<◌, List, [], ◌∷◌, ◌++◌, take, drop, set, length, refl, ap, subst, ◌∙◌, arith, add-one}
use Rattle.std.specs.declared.option.Option.{Option}
use Rattle.std.specs.declared.option.Option.TheVariants.{None}
use Rattle.std.proofs.lemmas.List.{length-set}
use Rattle.co_object.proofs.Each.{Each}
use Rattle.co_event.specs.GiveOut.{cleared}

module _ {X : Type 0} where
  cut-in : (xs : List X) (k : ℕ) (x : X) (rest : List X) → drop k xs ≡ x ∷ rest → k < length xs
  cut-in [] zero x rest is = cc
  cut-in [] (suc k) x rest is = cc
  cut-in (y ∷ ys) zero x rest is = omega arith
  cut-in (y ∷ ys) (suc k) x rest is = omega (arith, cut-in ys k x rest is)

  cut-take : (xs : List X) (k : ℕ) (x : X) (rest : List X) → drop k xs ≡ x ∷ rest → take (suc k) xs ≡ take k xs ++ x ∷ []
  cut-take [] zero x rest is = cc
  cut-take [] (suc k) x rest is = cc
  cut-take (y ∷ ys) zero x rest is = let e : y ≡ x = cc in ap (λ (z : X). z ∷ []) e
  cut-take (y ∷ ys) (suc k) x rest is = ap (λ (zs : List X). y ∷ zs) (cut-take ys k x rest is)

  cut-drop : (xs : List X) (k : ℕ) (x : X) (rest : List X) → drop k xs ≡ x ∷ rest → drop (suc k) xs ≡ rest
  cut-drop [] zero x rest is = cc
  cut-drop [] (suc k) x rest is = cc
  cut-drop (y ∷ ys) zero x rest is = let e : ys ≡ rest = cc in e
  cut-drop (y ∷ ys) (suc k) x rest is = cut-drop ys k x rest is

  pub record Cut (xs : List X) (k : ℕ) (x : X) (rest : List X) : Type 0 where
    pub within : k < length xs
    pub front : take (k + 1) xs ≡ take k xs ++ x ∷ []
    pub back : drop (k + 1) xs ≡ rest

  pub cut-more : (xs : List X) (k : ℕ) (x : X) (rest : List X) → drop k xs ≡ x ∷ rest → Cut xs k x rest
  cut-more xs k x rest is = record {
    within = cut-in xs k x rest is;
    front = ap (λ (n : ℕ). take n xs) (add-one k) ∙ cut-take xs k x rest is;
    back = ap (λ (n : ℕ). drop n xs) (add-one k) ∙ cut-drop xs k x rest is;
  }

  pub each-cut : (P : X → Type 0) (xs : List X) (k : ℕ) (x : X) (rest : List X) → Each P xs → drop k xs ≡ x ∷ rest → P x
  each-cut P [] zero x rest h is = cc
  each-cut P [] (suc k) x rest h is = cc
  each-cut P (y ∷ ys) zero x rest h is = let e : y ≡ x = cc in subst P e h.0
  each-cut P (y ∷ ys) (suc k) x rest h is = each-cut P ys k x rest h.1 is

pub each-both : {X : Type 0} (P Q : X → Type 0) (xs : List X) → Each P xs → Each Q xs → Each (λ x. P x × Q x) xs
each-both P Q [] h g = tt
each-both P Q (x ∷ xs) h g = ((h.0, g.0), each-both P Q xs h.1 g.1)

pub cleared-more : (is : List ℕ) (i : ℕ) (deadlines : List (Option ℕ)) → cleared (is ++ i ∷ []) deadlines ≡ set (cleared is deadlines) i None
cleared-more [] i deadlines = refl
cleared-more (j ∷ is) i deadlines = cleared-more is i (set deadlines j None)

pub length-cleared : (is : List ℕ) (deadlines : List (Option ℕ)) → length (cleared is deadlines) ≡ length deadlines
length-cleared [] deadlines = refl
length-cleared (j ∷ is) deadlines = length-cleared is (set deadlines j None) ∙ length-set deadlines j None
