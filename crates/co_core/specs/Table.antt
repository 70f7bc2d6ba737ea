-- A list that shows a function of the number.
use Rattle.std.specs.Prelude.{ℕ, List, map}
use Rattle.std.specs.List.{range_with_len}

-- the values below n, in order
abbrev pub table : {X : Type 0} → ℕ → (ℕ → X) → List X
table n f = map f (range_with_len 0 n)
