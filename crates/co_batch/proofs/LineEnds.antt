-- The end of a line whose last number has one digit, as bytes of a word.
use Rattle.std.proofs.Common.{◌≡◌, ℕ, ◌+◌, ◌*◌, ◌<◌, [], ◌∷◌, ◌++◌, ap, sym, ◌∙◌, refl, decimal, arith}
use Rattle.std.specs.Prelude.{◌/◌, ◌%◌}
use Rattle.std.specs.Int.{to_le_bytes, w32}
use Rattle.std.specs.List.{slice_range}
use Rattle.std.proofs.lemmas.Fmt.{decimal_digit}

pub one_digit : (n word : ℕ) → n < 10 → word ≡ 32 + 256 * (48 + n) + 65536 * 10 → slice_range (to_le_bytes w32 word) 0 3 ≡ (32 ∷ decimal n) ++ 10 ∷ []
one_digit n word few is =
    let one : word % 256 ≡ 32 = omega (arith, is) in
    let two : word / 256 % 256 ≡ 48 + n = omega (arith, few, is) in
    let three : word / 65536 % 256 ≡ 10 = omega (arith, few, is) in
    rw (one, two, three) refl ∙ ap (λ ds. (32 ∷ ds) ++ 10 ∷ []) (sym (decimal_digit n few))
