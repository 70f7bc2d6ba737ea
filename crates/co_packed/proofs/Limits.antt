-- What a number of so many bytes is below.
use Rattle.std.proofs.Common.{ℕ, zero, suc, ◌≡◌, ◌<◌, ◌≤◌, ◌+◌, ◌*◌, ◌^◌, min, refl, arith}
use Rattle.std.proofs.Math.Nat.{pow-suc, pow-le-pow_right, min-eq_left, min-le_right}
use Rattle.std.proofs.lemmas.Nat.{leading_length, pow_pos, pow-add}
use Rattle.co_packed.specs.Numbers.{width}

-- eight bits a byte
pub bytes_bits : (w : ℕ) → 256 ^ w ≡ 2 ^ (8 * w)
bytes_bits zero = refl
bytes_bits (suc w) =
    let e : 8 * suc w ≡ 8 * w + 8 = omega arith in
    rw e (omega (arith, bytes_bits w, pow-suc 256 w, pow-add 2 (8 * w) 8))

pub limit_pos : (w : ℕ) → 0 < 256 ^ w
limit_pos w = rw (bytes_bits w) (pow_pos (8 * w))

-- a number takes eight bytes at most
pub few_bytes : (n : ℕ) → width n ≤ 8
unfolding width
few_bytes n = omega arith

-- and its bytes hold it
pub below_width : (n : ℕ) → n < 2 ^ 64 → n < 256 ^ width n
unfolding width
below_width n h =
    let long = leading_length 64 n h in
    let up : 2 ^ long.0 ≤ 2 ^ (8 * width n) = pow-le-pow_right (omega arith) (omega arith) in
    rw (bytes_bits (width n)) (omega arith)

-- no number of eight bytes, or fewer, is more than 64 bits
pub limit_low : (wide : ℕ) → 256 ^ min wide 8 ≤ 2 ^ 64
limit_low wide = rw (bytes_bits (min wide 8)) (pow-le-pow_right {n = 2} (omega arith) {i = 8 * min wide 8} {j = 64} (omega (arith, min-le_right wide 8)))

pub same_width : (n : ℕ) → min (width n) 8 ≡ width n
same_width n = min-eq_left (few_bytes n)
