-- Tables: their length, what is read and written there, and when two are one.
use Rattle.std.proofs.Common.{◌≡◌, ℕ, zero, suc, ◌+◌, ◌<◌, ◌≤◌, ◌⊎◌, inl, inr, List, ◌∷◌, length, get_or, set, map, refl, sym, ap, ◌∙◌, arith, length-set}
use Rattle.std.specs.List.{range_with_len}
use Rattle.std.proofs.lemmas.List.{get_or-set_same, get_or-set_other}
use Rattle.std.proofs.lemmas.List.FromFn.{get_or-map-range_with_len, length-map-range_with_len, fill_by_all}
use Rattle.co_core.specs.Table.{table}
use Rattle.co_world.proofs.basics.Changes.{IsAt, decide}

pub table_long : {X : Type 0} (n : ℕ) (f : ℕ → X) → length (table n f) ≡ n
table_long n f = length-map-range_with_len f 0 n

pub table_at : {X : Type 0} (n : ℕ) (f : ℕ → X) (i : ℕ) (d : X) → i < n → get_or (table n f) i d ≡ f i
table_at n f i d within = get_or-map-range_with_len f 0 n i i d within (omega arith)

-- what is read from a list that is a table
pub read : {X : Type 0} (xs : List X) (n : ℕ) (f : ℕ → X) (i : ℕ) (d : X) → xs ≡ table n f → i < n → get_or xs i d ≡ f i
read xs n f i d is within = ap (λ l. get_or l i d) is ∙ table_at n f i d within

pub long : {X : Type 0} (xs : List X) (n : ℕ) (f : ℕ → X) → xs ≡ table n f → length xs ≡ n
long xs n f is = ap length is ∙ table_long n f

-- a list with these values is the table
pub fills : {X : Type 0} (xs : List X) (n : ℕ) (f : ℕ → X) (d : X) → length xs ≡ n → ((i : ℕ) → i < n → get_or xs i d ≡ f i) → xs ≡ table n f
fills xs n f d long all = fill_by_all f xs n d long all

pub same : {X : Type 0} (n : ℕ) (f g : ℕ → X) → ((i : ℕ) → i < n → g i ≡ f i) → table n f ≡ table n g
same n f g all = go 0 n (λ i low high. all i (omega arith)) where
  go : (k n : ℕ) → ((i : ℕ) → k ≤ i → i < k + n → g i ≡ f i) → map f (range_with_len k n) ≡ map g (range_with_len k n)
  go k zero all = refl
  go k (suc n) all =
      let head : f k ≡ g k = sym (all k (omega arith) (omega arith)) in
      let tail : map f (range_with_len (k + 1) n) ≡ map g (range_with_len (k + 1) n) = go (k + 1) n (λ i low high. all i (omega arith) (omega arith)) in
      ap (λ y. y ∷ map f (range_with_len (k + 1) n)) head ∙ ap (λ ys. g k ∷ ys) tail

-- one value is replaced
pub put : {X : Type 0} (xs : List X) (n : ℕ) (f : ℕ → X) (i : ℕ) (x : X) (g : ℕ → X) → xs ≡ table n f → IsAt f i x g → set xs i x ≡ table n g
put xs n f i x g is at =
    let long' : length (set xs i x) ≡ n = length-set xs i x ∙ long xs n f is in
    fills (set xs i x) n g x long' (λ j within. go j within (decide j i)) where
      go : (j : ℕ) → j < n → (j ≡ i) ⊎ (j ≡ i → ⊥) → get_or (set xs i x) j x ≡ g j
      go j within (inl own) =
          let inside : i < length xs = (let l = long xs n f is in omega arith) in
          ap (λ k. get_or (set xs i x) k x) own ∙ get_or-set_same xs i x x inside ∙ sym at.here ∙ ap g (sym own)
      go j within (inr other) = get_or-set_other xs i j x x other ∙ read xs n f j x is within ∙ sym (at.else j other)
