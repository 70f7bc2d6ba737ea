-- The elements of a list: what is in it is found by a test that it alone passes.
use Rattle.std.proofs.Common.{◌≡◌, ℕ, ◌+◌, ◌≤◌, Bool, true, false, cond, ◌⊎◌, inl, inr, List, [], ◌∷◌, ◌++◌, refl, ap, ◌∙◌, arith}
use Rattle.std.specs.Prelude.{Some}
use Rattle.std.specs.List.{filter, find}
use Rattle.co_object.proofs.Passing.{passing}

module _ {X : Type 0} where
  abbrev pub Has : X → List X → Type 0
  Has x [] = ⊥
  Has x (y ∷ ys) = (y ≡ x) ⊎ Has x ys

  pub has-left : (x : X) (xs ys : List X) → Has x xs → Has x (xs ++ ys)
  has-left x [] ys h = absurd h
  has-left x (y ∷ xs) ys h = elim h [ inl e ↦ inl e | inr rest ↦ inr (has-left x xs ys rest) ]

  pub has-right : (x : X) (xs ys : List X) → Has x ys → Has x (xs ++ ys)
  has-right x [] ys h = h
  has-right x (y ∷ xs) ys h = inr (has-right x xs ys h)

  pub has-filter : (p : X → Bool) (x : X) (xs : List X) → p x ≡ true → Has x xs → Has x (filter p xs)
  has-filter p x [] passes h = absurd h
  has-filter p x (y ∷ ys) passes h = elim h [ inl e ↦ first e | inr rest ↦ behind (p y) (has-filter p x ys passes rest) ]
    where
      first : y ≡ x → Has x (cond (p y) (y ∷ filter p ys) (filter p ys))
      first e = let b : p y ≡ true = ap p e ∙ passes in rw b (inl e)

      behind : (b : Bool) → Has x (filter p ys) → Has x (cond b (y ∷ filter p ys) (filter p ys))
      behind true rest = inr rest
      behind false rest = rest

  pub has-passing : (p : X → Bool) (x : X) (xs : List X) → p x ≡ true → Has x xs → 1 ≤ passing p xs
  has-passing p x [] passes h = absurd h
  has-passing p x (y ∷ ys) passes h = elim h [ inl e ↦ first e | inr rest ↦ (let more = has-passing p x ys passes rest in omega (arith, more)) ]
    where
      first : y ≡ x → 1 ≤ cond (p y) 1 0 + passing p ys
      first e = let b : p y ≡ true = ap p e ∙ passes in rw b (omega arith)

  pub find-has : (p : X → Bool) (x : X) (xs : List X) → passing p xs ≡ 1 → p x ≡ true → Has x xs → find p xs ≡ Some x
  find-has p x [] one passes h = absurd h
  find-has p x (y ∷ ys) one passes h = at_test (p y) refl h (λ one rest. find-has p x ys one passes rest) where
    at_test : (b : Bool) → p y ≡ b → Has x (y ∷ ys) → (passing p ys ≡ 1 → Has x ys → find p ys ≡ Some x) → cond (p y) (Some y) (find p ys) ≡ Some x
    at_test true is h behind = rw is (ap Some (elim h [
      | inl e ↦ e
      | inr rest ↦ (
          let more = has-passing p x ys passes rest in
          let first : cond {A = ℕ} (p y) 1 0 ≡ 1 = ap (λ (b : Bool). cond {A = ℕ} b 1 0) is in
          absurd (omega (arith, one, first, more)))
    ]))
    at_test false is h behind = rw is (elim h [
      | inl e ↦ (let b : p y ≡ true = ap p e ∙ passes in cc)
      | inr rest ↦ (
          let none : cond {A = ℕ} (p y) 1 0 ≡ 0 = ap (λ (b : Bool). cond {A = ℕ} b 1 0) is in
          let others : passing p ys ≡ 1 = omega (arith, one, none) in
          behind others rest)
    ])
