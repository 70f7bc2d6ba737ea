-- Lists of equal elements, and tables of equal values.
use Rattle.std.proofs.Common.{◌≡◌, ℕ, zero, suc, ◌+◌, [], ◌∷◌, ◌++◌, replicate, map, refl, ap, sym, arith}
use Rattle.std.specs.List.{range_with_len}
use Rattle.std.proofs.lemmas.List.FromFn.{map-range_with_len_more}
use Rattle.co_core.specs.Table.{table}

-- a table of one value
range-same : {X : Type 0} (a n : ℕ) (x : X) → map (λ _. x) (range_with_len a n) ≡ replicate n x
range-same a zero x = refl
range-same a (suc n) x = ap (λ xs. x ∷ xs) (range-same (a + 1) n x)

pub table-same : {X : Type 0} (n : ℕ) (x : X) → table n (λ _. x) ≡ replicate n x
table-same n x = range-same 0 n x

-- a table with one more value
pub table-more : {X : Type 0} (n : ℕ) (f : ℕ → X) → table n f ++ f n ∷ [] ≡ table (n + 1) f
table-more n f = sym (map-range_with_len_more f 0 n n (omega arith))
