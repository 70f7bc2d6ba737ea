-- The sum of the widths of a row, by the halves of its bytes.
use Rattle.std.proofs.Common.{ℕ, zero, suc, ◌≡◌, ◌≤◌, ◌+◌, ◌*◌, ◌/◌, ◌%◌, bit_and, ap, ◌∙◌, arith}
use Rattle.std.proofs.lemmas.Nat.{and_mask, and_mod, and_shr, and_le_r}
use Rattle.co_packed.proofs.Widths.{size_none, size_next}
use Rattle.co_packed.specs.Rows.{size_in}

-- the lower halves of so many bytes
lower : ℕ → ℕ
lower zero = 0
lower (suc more) = 15 + 256 * lower more

lower_next : (n more : ℕ) → bit_and n (lower (suc more)) ≡ n % 16 + 256 * bit_and (n / 256) (lower more)
unfolding lower
lower_next n more =
    let low : (15 + 256 * lower more) % 256 ≡ 15 = omega arith in
    let high : (15 + 256 * lower more) / 256 ≡ lower more = omega arith in
    let first : bit_and n (lower (suc more)) % 256 ≡ bit_and (n % 256) 15 = and_mod n (lower (suc more)) 8 ∙ ap (bit_and (n % 256)) low in
    let rest : bit_and n (lower (suc more)) / 256 ≡ bit_and (n / 256) (lower more) = and_shr n (lower (suc more)) 8 ∙ ap (bit_and (n / 256)) high in
    omega (arith, first, rest, and_mask (n % 256) 4)

-- the lower halves and the upper ones, byte by byte
abbrev pairs : ℕ → ℕ → ℕ
pairs more n = bit_and n (lower more) + bit_and (n / 16) (lower more)

pairs_sum : (more n : ℕ) → (over : ℕ) × (pairs more n ≡ size_in (2 * more) n + 255 * over)
unfolding lower
pairs_sum zero n = (0, omega (arith, size_none n, and_le_r n 0, and_le_r (n / 16) 0))
pairs_sum (suc more) n =
    let rest = pairs_sum more (n / 256) in
    let e : 2 * suc more ≡ suc (suc (2 * more)) = omega arith in
    let low : n / 16 / 16 ≡ n / 256 = omega arith in
    let high : n / 16 / 256 ≡ n / 256 / 16 = omega arith in
    let upper : bit_and (n / 16 / 256) (lower more) ≡ bit_and (n / 256 / 16) (lower more) = ap (λ (k : ℕ). bit_and k (lower more)) high in
    let behind : size_in (2 * more) (n / 16 / 16) ≡ size_in (2 * more) (n / 256) = ap (size_in (2 * more)) low in
    let sized : size_in (2 * suc more) n ≡ size_in (suc (suc (2 * more))) n = ap (λ (k : ℕ). size_in k n) e in
    (pairs more (n / 256) + rest.0, omega (arith, rest.1, lower_next n more, lower_next (n / 16) more, upper, behind, sized, size_next (suc (2 * more)) n, size_next (2 * more) (n / 16)))

size_low : (count n : ℕ) → size_in count n ≤ 15 * count
size_low zero n = omega (arith, size_none n)
size_low (suc count) n = omega (arith, size_next count n, size_low count (n / 16))

pub size_of_pairs : (n : ℕ) → (bit_and n 1085102592571150095 + bit_and (n / 16) 1085102592571150095) % 255 ≡ size_in 16 n
unfolding lower
size_of_pairs n = let all = pairs_sum 8 n in omega (arith, all.1, size_low 16 n)
