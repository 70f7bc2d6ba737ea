-- The bytes of a line, its line feed among them.
use Rattle.std.specs.Prelude.{ℕ, Bool, true, false, List, [], ◌∷◌, ◌++◌}
use Rattle.co_text.specs.Lines.{Line}

abbrev pub feed_of : Bool → List ℕ
feed_of true = 10 ∷ []
feed_of false = []

abbrev pub line_bytes : Line → List ℕ
line_bytes l = l.bytes ++ feed_of l.ended
