-- The parts of a line between its spaces: each space ends one and begins the next.
use Rattle.std.specs.Prelude.{ℕ, Bool, true, false, List, [], ◌∷◌, ◌++◌, ◌==◌}
use Rattle.co_text.specs.Lines.{spaced}
use Rattle.co_text.specs.Values.{Word}

abbrev pub is_space : ℕ → Bool
is_space c = c == 32

-- parts to whose front a byte comes, where it's a space or not
abbrev pub parts_behind : Bool → ℕ → List Word → List Word
parts_behind true c ps = [] ∷ ps
parts_behind false c [] = (c ∷ []) ∷ []
parts_behind false c (p ∷ ps) = (c ∷ p) ∷ ps

abbrev pub parts : List ℕ → List Word
parts [] = [] ∷ []
parts (c ∷ cs) = parts_behind (is_space c) c (parts cs)

-- the parts of what is left of a line behind a part: first comes the space that ended it, if a space did
abbrev pub parts_left : List ℕ → List Word
parts_left [] = []
parts_left (c ∷ text) = parts text

-- words with one space between two
abbrev pub joined : List Word → List ℕ
joined [] = []
joined (w ∷ ws) = w ++ spaced ws
