-- How many elements pass a test, by recursion.
use Rattle.std.proofs.Common.{◌≡◌, ℕ, ◌+◌, ◌≤◌, Bool, true, false, cond, not, ◌||◌, List, [], ◌∷◌, ◌++◌, map, refl, ap, ◌∙◌, arith, fold, count_by, add_assoc}
use Rattle.std.specs.List.{filter, list_any}

module _ {X : Type 0} (p : X → Bool) where
  abbrev pub one_if : X → ℕ
  one_if x = cond (p x) 1 0

  abbrev pub passing : List X → ℕ
  passing [] = 0
  passing (x ∷ xs) = one_if x + passing xs

  passing-fold : (a : ℕ) (xs : List X) → fold (λ n x. n + cond (p x) 1 0) a xs ≡ a + passing xs
  passing-fold a [] = omega arith
  passing-fold a (x ∷ xs) = passing-fold (a + one_if x) xs ∙ add_assoc a (one_if x) (passing xs)

  pub count-passing : (xs : List X) → count_by p xs ≡ passing xs
  count-passing xs = passing-fold 0 xs ∙ omega arith

  pub passing-append : (xs ys : List X) → passing (xs ++ ys) ≡ passing xs + passing ys
  passing-append [] ys = omega arith
  passing-append (x ∷ xs) ys = omega (arith, passing-append xs ys)

  pub passing-none : (xs : List X) → list_any p xs ≡ false → passing xs ≡ 0
  passing-none [] h = refl
  passing-none (x ∷ xs) h = at_test (p x) refl (λ rest. passing-none xs rest) where
    at_test : (b : Bool) → p x ≡ b → (list_any p xs ≡ false → passing xs ≡ 0) → cond (p x) 1 0 + passing xs ≡ 0
    at_test true is rest = let both : (true || list_any p xs) ≡ false = rw is at h in cc
    at_test false is rest = let both : (false || list_any p xs) ≡ false = rw is at h in rw is (omega (arith, rest both))

  pub passing-some : (xs : List X) → list_any p xs ≡ true → 1 ≤ passing xs
  passing-some [] h = cc
  passing-some (x ∷ xs) h = at_test (p x) refl (λ rest. passing-some xs rest) where
    at_test : (b : Bool) → p x ≡ b → (list_any p xs ≡ true → 1 ≤ passing xs) → 1 ≤ cond (p x) 1 0 + passing xs
    at_test true is rest = rw is (omega arith)
    at_test false is rest = let both : (false || list_any p xs) ≡ true = rw is at h in rw is (omega (arith, rest both))

  -- what a filter takes away does not pass
  pub passing-filter_out : (keep : X → Bool) → ((x : X) → p x ≡ true → keep x ≡ true) → (xs : List X) → passing (filter keep xs) ≡ passing xs
  passing-filter_out keep h [] = refl
  passing-filter_out keep h (x ∷ xs) = at_test (keep x) (p x) refl refl (passing-filter_out keep h xs) where
    at_test : (k b : Bool) → keep x ≡ k → p x ≡ b → passing (filter keep xs) ≡ passing xs →
        passing (cond (keep x) (x ∷ filter keep xs) (filter keep xs)) ≡ cond (p x) 1 0 + passing xs
    at_test true b is passes rest = rw is (ap (λ n. cond (p x) 1 0 + n) rest)
    at_test false true is passes rest = let kept = h x passes in cc
    at_test false false is passes rest = rw (is, passes) (omega (arith, rest))

  -- what a filter keeps does not pass
  pub passing-filter_none : (keep : X → Bool) → ((x : X) → p x ≡ true → keep x ≡ false) → (xs : List X) → passing (filter keep xs) ≡ 0
  passing-filter_none keep h [] = refl
  passing-filter_none keep h (x ∷ xs) = at_test (keep x) (p x) refl refl (passing-filter_none keep h xs) where
    at_test : (k b : Bool) → keep x ≡ k → p x ≡ b → passing (filter keep xs) ≡ 0 →
        passing (cond (keep x) (x ∷ filter keep xs) (filter keep xs)) ≡ 0
    at_test true true is passes rest = let gone = h x passes in cc
    at_test true false is passes rest = rw (is, passes) (omega (arith, rest))
    at_test false b is passes rest = rw is rest

  -- a list in two parts, by a test and by its contrary
  pub passing-parts : (q r : X → Bool) → ((x : X) → r x ≡ not (q x)) → (xs : List X) → passing (filter q xs) + passing (filter r xs) ≡ passing xs
  passing-parts q r other [] = refl
  passing-parts q r other (x ∷ xs) = at_test (q x) refl (passing-parts q r other xs) where
    at_test : (b : Bool) → q x ≡ b → passing (filter q xs) + passing (filter r xs) ≡ passing xs →
        passing (cond (q x) (x ∷ filter q xs) (filter q xs)) + passing (cond (r x) (x ∷ filter r xs) (filter r xs)) ≡ cond (p x) 1 0 + passing xs
    at_test true is rest = rw (other x, is) (omega (arith, rest))
    at_test false is rest = rw (other x, is) (omega (arith, rest))

pub passing-map : {X Y : Type 0} (p : Y → Bool) (f : X → Y) (xs : List X) → passing p (map f xs) ≡ passing (λ x. p (f x)) xs
passing-map p f [] = refl
passing-map p f (x ∷ xs) = ap (λ n. cond (p (f x)) 1 0 + n) (passing-map p f xs)
