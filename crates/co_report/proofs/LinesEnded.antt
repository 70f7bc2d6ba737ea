-- A text whose last byte is a line feed has no line that is cut.
use Rattle.std.proofs.Common.{◌≡◌, ℕ, ◌+◌, ◌<◌, Bool, true, false, List, [], ◌∷◌, ◌++◌, length, refl, arith}
use Rattle.std.specs.Prelude.{Ok}
use Rattle.co_text.specs.Lines.{Line, lines_of, lines_behind, is_feed}
use Rattle.co_report.specs.Reading.{none_cut}

-- lines, none of them cut
record AreEnded (ls : List Line) : Type 0 where
  some : 0 < length ls
  ended : (k : ℕ) → none_cut k ls ≡ Ok true

behind : (b : Bool) (c : ℕ) (ls : List Line) → AreEnded ls → AreEnded (lines_behind b c ls)
behind true c ls are = record { some = omega arith; ended = λ k. are.ended (k + 1) }
behind false c [] are = absurd (omega (arith, are.some))
behind false c (l ∷ ls) are = record { some = omega arith; ended = are.ended }

all-ended : (bs : List ℕ) → AreEnded (lines_of (bs ++ 10 ∷ []))
all-ended [] = record { some = omega arith; ended = λ k. refl }
all-ended (c ∷ cs) = behind (is_feed c) c (lines_of (cs ++ 10 ∷ [])) (all-ended cs)

pub none_cut_ended : (text front : List ℕ) (last : ℕ) → text ≡ front ++ last ∷ [] → last ≡ 10 → none_cut 1 (lines_of text) ≡ Ok true
none_cut_ended text front last e feed = rw (e, feed) ((all-ended front).ended 1)
