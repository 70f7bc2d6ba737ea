-- The number of a line beside those of the lines above.
use Rattle.std.proofs.Common.{◌≡◌, ℕ, zero, suc, ◌+◌, ◌<◌, ◌≤◌, ◌&&◌, ◌||◌, Bool, true, false, cond, max, nat_lt, List, [], ◌∷◌, ◌++◌, length, refl, ap, sym, ◌∙◌, arith}
use Rattle.std.specs.Prelude.{Option, Some, None, is_some, slice_get}
use Rattle.std.specs.List.{list_any}
use Rattle.std.proofs.lemmas.Bool.Decides.{nat_tests}
use Rattle.co_report.specs.declared.line.Line.{Line}
use Rattle.co_check.specs.Index.{index_of, highest}

-- ---- where a line stands

pub any-index : (p : Line → Bool) (at : ℕ) (xs : List Line) → list_any p xs ≡ is_some (index_of p at xs)
any-index p at [] = refl
any-index p at (x ∷ xs) = at_test (p x) (any-index p (at + 1) xs) where
  at_test : (b : Bool) → list_any p xs ≡ is_some (index_of p (at + 1) xs) → (b || list_any p xs) ≡ is_some (cond {A = Option ℕ} b (Some at) (index_of p (at + 1) xs))
  at_test true rest = refl
  at_test false rest = rest

pub index-other : (p : Line → Bool) (at : ℕ) (xs : List Line) (y : Line) → p y ≡ false → index_of p at (xs ++ y ∷ []) ≡ index_of p at xs
index-other p at [] y h = ap (λ b. cond {A = Option ℕ} b (Some at) None) h
index-other p at (x ∷ xs) y h = ap (λ o. cond {A = Option ℕ} (p x) (Some at) o) (index-other p (at + 1) xs y h)

pub index-same : (p : Line → Bool) (at : ℕ) (xs : List Line) (y : Line) → list_any p xs ≡ false → p y ≡ true → index_of p at (xs ++ y ∷ []) ≡ Some (at + length xs)
index-same p at [] y none h = ap (λ b. cond {A = Option ℕ} b (Some at) None) h ∙ ap Some (omega arith)
index-same p at (x ∷ xs) y none h = at_test (p x) none (λ rest. index-same p (at + 1) xs y rest h) where
  at_test : (b : Bool) → (b || list_any p xs) ≡ false → (list_any p xs ≡ false → index_of p (at + 1) (xs ++ y ∷ []) ≡ Some (at + 1 + length xs))
      → cond {A = Option ℕ} b (Some at) (index_of p (at + 1) (xs ++ y ∷ [])) ≡ Some (at + suc (length xs))
  at_test true rest then = cc
  at_test false rest then = then rest ∙ ap Some (omega arith)

-- an index is that of a line
pub index-read : (p : Line → Bool) (at i : ℕ) (xs : List Line) → index_of p at xs ≡ Some i → (x : Line) × (k : ℕ) × (i ≡ at + k) × (slice_get xs k ≡ Some x) × (p x ≡ true)
index-read p at i [] h = cc
index-read p at i (x ∷ xs) h = at_test (p x) refl h (λ g. index-read p (at + 1) i xs g) where
  at_test : (b : Bool) → p x ≡ b → cond {A = Option ℕ} b (Some at) (index_of p (at + 1) xs) ≡ Some i → (index_of p (at + 1) xs ≡ Some i → (y : Line) × (k : ℕ) × (i ≡ at + 1 + k) × (slice_get xs k ≡ Some y) × (p y ≡ true)) → (y : Line) × (k : ℕ) × (i ≡ at + k) × (slice_get (x ∷ xs) k ≡ Some y) × (p y ≡ true)
  at_test true is g later = (x, zero, (let same : at ≡ i = cc in omega arith), refl, is)
  at_test false is g later = let rest = later g in (rest.0, suc rest.1, omega (arith, rest.2), rest.3, rest.4)

-- ---- the highest number

abbrev above_of : (Line → Bool) → Line → ℕ
above_of p y = cond (p y) (y.number + 1) 0

pub highest-more : (p : Line → Bool) (xs : List Line) (y : Line) → highest p (xs ++ y ∷ []) ≡ max (highest p xs) (above_of p y)
highest-more p [] y = omega arith
highest-more p (x ∷ xs) y = omega (arith, highest-more p xs y)

pub highest-other : (p : Line → Bool) (xs : List Line) (y : Line) → p y ≡ false → highest p (xs ++ y ∷ []) ≡ highest p xs
highest-other p xs y h = highest-more p xs y ∙ (ap (λ b. max (highest p xs) (cond b (y.number + 1) 0)) h ∙ omega arith)

pub highest-same : (p : Line → Bool) (xs : List Line) (y : Line) → p y ≡ true → highest p xs ≤ y.number → highest p (xs ++ y ∷ []) ≡ y.number + 1
highest-same p xs y h low = highest-more p xs y ∙ (ap (λ b. max (highest p xs) (cond b (y.number + 1) 0)) h ∙ omega arith)

pub none-above : (p : Line → Bool) (n : ℕ) (xs : List Line) → highest p xs ≤ n → list_any (λ x. p x && nat_lt n x.number) xs ≡ false
none-above p n [] low = refl
none-above p n (x ∷ xs) low = at_test (p x) low (none-above p n xs) where
  at_test : (b : Bool) → max (cond b (x.number + 1) 0) (highest p xs) ≤ n → (highest p xs ≤ n → list_any (λ x. p x && nat_lt n x.number) xs ≡ false) → (b && nat_lt n x.number || list_any (λ x. p x && nat_lt n x.number) xs) ≡ false
  at_test true h rest = let less : nat_lt n x.number ≡ false = not_less n x.number (omega arith) in ap (λ b. b || list_any (λ x. p x && nat_lt n x.number) xs) less ∙ rest (omega arith) where
    not_less : (a b : ℕ) → b ≤ a → nat_lt a b ≡ false
    not_less a b le = grind (arith, nat_tests)
  at_test false h rest = rest (omega arith)

-- a number above: of a note with this number, or a higher one
pub some-above : (p q : Line → Bool) (n : ℕ) (xs : List Line) → ((x : Line) → p x ≡ true → x.number ≡ n → q x ≡ true) → n < highest p xs → list_any q xs ≡ false → list_any (λ x. p x && nat_lt n x.number) xs ≡ true
some-above p q n [] same high none = absurd (omega arith)
some-above p q n (x ∷ xs) same high none = at_test (p x) refl high none (λ more less. some-above p q n xs same more less) where
  lower : (a b : ℕ) → a < b → nat_lt a b ≡ true
  lower a b h = grind (arith, nat_tests)

  is_lower : (a b : ℕ) → nat_lt a b ≡ true → a < b
  is_lower a b h = grind (arith, nat_tests)

  is_higher : (a b : ℕ) → nat_lt a b ≡ false → b ≤ a
  is_higher a b h = grind (arith, nat_tests)

  below_it : (c : Bool) → q x ≡ c → p x ≡ true → (c || list_any q xs) ≡ false → (n ≡ x.number → ⊥)
  below_it true is h g = cc
  below_it false is h g = λ e. (let t : q x ≡ true = same x h (sym e) in let bad : true ≡ false = sym t ∙ is in cc)

  rest_none : (c : Bool) → (c || list_any q xs) ≡ false → list_any q xs ≡ false
  rest_none true g = cc
  rest_none false g = g

  or_true : (b c : Bool) → c ≡ true → (b || c) ≡ true
  or_true true c h = refl
  or_true false c h = h

  by_number : (c : Bool) → nat_lt n (highest p xs) ≡ c → p x ≡ true → n < max (x.number + 1) (highest p xs) → (q x || list_any q xs) ≡ false
      → (n < highest p xs → list_any q xs ≡ false → list_any (λ x. p x && nat_lt n x.number) xs ≡ true) → (nat_lt n x.number || list_any (λ x. p x && nat_lt n x.number) xs) ≡ true
  by_number true lt is h g later = or_true (nat_lt n x.number) _ (later (is_lower n (highest p xs) lt) (rest_none (q x) g))
  by_number false ge is h g later =
      let apart = below_it (q x) refl is g in
      let le : highest p xs ≤ n = is_higher n (highest p xs) ge in
      ap (λ b. b || list_any (λ x. p x && nat_lt n x.number) xs) (lower n x.number (omega (arith, apart)))

  at_test : (b : Bool) → p x ≡ b → n < max (cond b (x.number + 1) 0) (highest p xs) → (q x || list_any q xs) ≡ false
      → (n < highest p xs → list_any q xs ≡ false → list_any (λ x. p x && nat_lt n x.number) xs ≡ true) → (b && nat_lt n x.number || list_any (λ x. p x && nat_lt n x.number) xs) ≡ true
  at_test true is h g later = by_number (nat_lt n (highest p xs)) refl is h g later
  at_test false is h g later = later (omega arith) (rest_none (q x) g)
