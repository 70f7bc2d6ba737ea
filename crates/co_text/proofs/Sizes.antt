-- How many bytes a line of words has, and how many the words of values have at most.
use Rattle.std.proofs.Common.{◌≡◌, ℕ, suc, ◌+◌, ◌^◌, ◌<◌, ◌≤◌, List, [], ◌∷◌, ◌++◌, length, refl, arith, ℤ, pos, negsuc, decimal, length-append}
use Rattle.std.specs.Fmt.{signed_decimal}
use Rattle.std.proofs.lemmas.Fmt.{length-decimal-le}
use Rattle.co_text.specs.Lines.{spaced, line_text}
use Rattle.co_text.specs.Values.{Word}
use Rattle.co_text.proofs.ValuesBack.{IsI32}

-- the bytes of words, each with a byte behind it, and of a line feed
abbrev pub weight : List Word → ℕ
weight [] = 1
weight (w ∷ ws) = length w + (1 + weight ws)

spaced-weight : (ws : List Word) → length (spaced ws) + 1 ≡ weight ws
spaced-weight [] = refl
spaced-weight (w ∷ ws) = omega (arith, length-append w (spaced ws), spaced-weight ws)

pub line-weight : (ws : List Word) → length (line_text ws) ≤ weight ws
line-weight [] = omega arith
line-weight (w ∷ ws) = omega (arith, length-append w (spaced ws ++ 10 ∷ []), length-append (spaced ws) (10 ∷ []), spaced-weight ws)

pub number-short : (n : ℕ) → n < 2 ^ 64 → length (decimal n) ≤ 20
number-short n h = length-decimal-le 20 n (omega arith) (omega (arith, h)) h

pub time-short : (t : ℕ) → t < 2 ^ 63 → length (decimal t) ≤ 19
time-short t h = length-decimal-le 19 t (omega arith) (omega (arith, h)) (omega (arith, h))

pub signed-short : (k : ℤ) → IsI32 k → length (signed_decimal k) ≤ 11
signed-short (pos n) h = let few : length (decimal n) ≤ 10 = length-decimal-le 10 n (omega arith) (omega (arith, h)) (omega (arith, h)) in omega (arith, few)
signed-short (negsuc n) h = let few : length (decimal (suc n)) ≤ 10 = length-decimal-le 10 (suc n) (omega arith) (omega (arith, h)) (omega (arith, h)) in omega (arith, few)
