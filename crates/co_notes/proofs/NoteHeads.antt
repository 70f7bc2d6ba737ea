-- The first words of a note, written piece by piece.
use Rattle.std.proofs.Common.{◌≡◌, ℕ, List, [], ◌∷◌, ◌++◌, append_assoc, append-nil}
use Rattle.co_text.specs.Lines.{spaced}

-- a number, a space and a letter and a name, and a slash and a number
pub note_head : (old p1 p2 p3 d name m : List ℕ) (letter : ℕ) → p1 ≡ old ++ d → p2 ≡ p1 ++ (32 ∷ letter ∷ name) → p3 ≡ p2 ++ 47 ∷ m → p3 ≡ old ++ (d ++ spaced (((letter ∷ name) ++ 47 ∷ m) ∷ []))
note_head old p1 p2 p3 d name m letter e1 e2 e3 = rw (e3, e2, e1) (simp (append_assoc, append-nil))
