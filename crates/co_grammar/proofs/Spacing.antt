-- Pieces of a line written one after the other, and the words of a precision that is not 0.
use Rattle.std.proofs.Common.{◌≡◌, ◌≢◌, ℕ, zero, suc, List, [], ◌∷◌, ◌++◌, refl, append_assoc}
use Rattle.std.specs.Prelude.{codes}
use Rattle.co_text.specs.Written.{units_word}
use Rattle.co_grammar.specs.Spelling.{precision_words}

pub precision_some : (p : ℕ) → p ≢ 0 → precision_words p ≡ codes "pr" ∷ units_word p ∷ []
precision_some zero some = absurd (some refl)
precision_some (suc p) some = refl

-- a line's end
pub ended : (old p1 p2 a b : List ℕ) → p1 ≡ old ++ (a ++ b) → p2 ≡ p1 ++ 10 ∷ [] → p2 ≡ old ++ (a ++ (b ++ 10 ∷ []))
ended old p1 p2 a b e1 e2 = rw (e2, e1) (simp append_assoc)
