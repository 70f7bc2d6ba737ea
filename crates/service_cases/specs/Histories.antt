-- The histories of the tests: entries (actor, value).
use Rattle.std.specs.Prelude.{◌≡◌, ℕ, zero, suc, ◌+◌, List, [], ◌∷◌, ◌++◌}

abbrev pub said_by : ℕ × ℕ → ℕ
said_by e = e.0

abbrev pub CountsFrom : ℕ → List (ℕ × ℕ) → Type 0
CountsFrom n [] = Unit {0}
CountsFrom n (e ∷ es) = (e.1 ≡ n) × CountsFrom (n + 1) es

-- each value is the number of entries before it
abbrev pub Counts : List (ℕ × ℕ) → Type 0
Counts h = CountsFrom 0 h

CountsFrom-front : (xs ys : List (ℕ × ℕ)) (n : ℕ) → CountsFrom n (xs ++ ys) → CountsFrom n xs
CountsFrom-front [] ys n c = tt
CountsFrom-front (x ∷ xs) ys n c = (c.0, CountsFrom-front xs ys (n + 1) c.1)

pub Counts-front : (xs ys : List (ℕ × ℕ)) → Counts (xs ++ ys) → Counts xs
Counts-front xs ys c = CountsFrom-front xs ys 0 c

-- an actor's entries with the values below n, in order
abbrev pub numbered : ℕ → ℕ → List (ℕ × ℕ)
numbered actor zero = []
numbered actor (suc n) = numbered actor n ++ (actor, n) ∷ []
