-- What was written of some bytes where not all were.
use Rattle.std.specs.Prelude.{◌≡◌, ℕ, ◌<◌, Option, List, ◌++◌, length}
use Rattle.std.specs.Io.KnownBytes.{Appends}

-- a proper front of some bytes was appended, perhaps nothing
abbrev pub AppendsFront : Option (List ℕ) → Option (List ℕ) → List ℕ → Type 0
AppendsFront before after bytes = (written : List ℕ) × (rest : List ℕ) × (bytes ≡ written ++ rest) × (0 < length rest) × Appends before after written
