-- The digits of numbers, by groups.
use Rattle.std.proofs.Common.{◌≡◌, ℕ, ◌+◌, ◌^◌, ◌<◌, ◌≤◌, List, [], ◌∷◌, ◌++◌, refl, ap, sym, ◌∙◌, arith, append_assoc, decimal}
use Rattle.std.specs.Prelude.{◌/◌, ◌%◌}
use Rattle.std.proofs.lemmas.Fmt.{decimal_digit, decimal_step}
use Rattle.co_text.specs.Written.{last_four, last_eight}

abbrev digit : ℕ → ℕ
digit n = 48 + n % 10

one : (n : ℕ) → n < 10 → decimal n ≡ digit n ∷ []
one n h = let e : 48 + n ≡ 48 + n % 10 = omega (arith, h) in decimal_digit n h ∙ ap (λ d. d ∷ []) e

-- where the digits before the last are known
behind : (n m : ℕ) (ds : List ℕ) → 10 ≤ n → n < 2 ^ 64 → n / 10 ≡ m → decimal m ≡ ds → decimal n ≡ ds ++ (digit n ∷ [])
behind n m ds low small e h = decimal_step n low small ∙ ap (λ k. decimal k ++ (digit n ∷ [])) e ∙ ap (λ t. t ++ (digit n ∷ [])) h

pub decimal_two : (n : ℕ) → 10 ≤ n → n < 100 → decimal n ≡ (48 + n / 10 % 10) ∷ (48 + n % 10) ∷ []
decimal_two n low high = behind n (n / 10) (digit (n / 10) ∷ []) low (omega (arith, high)) refl (one (n / 10) (omega (arith, high)))

pub decimal_three : (n : ℕ) → 100 ≤ n → n < 1000 → decimal n ≡ (48 + n / 100 % 10) ∷ (48 + n / 10 % 10) ∷ (48 + n % 10) ∷ []
decimal_three n low high =
    let e : n / 10 / 10 ≡ n / 100 = omega arith in
    behind n (n / 10) (digit (n / 100) ∷ digit (n / 10) ∷ []) (omega (arith, low)) (omega (arith, high)) refl
    (decimal_two (n / 10) (omega (arith, low)) (omega (arith, high)) ∙ ap (λ k. digit k ∷ digit (n / 10) ∷ []) e)

pub decimal_four : (n : ℕ) → 1000 ≤ n → n < 10000 → decimal n ≡ last_four n
decimal_four n low high =
    let e : n / 10 / 100 ≡ n / 1000 = omega arith in
    let f : n / 10 / 10 ≡ n / 100 = omega arith in
    behind n (n / 10) (digit (n / 1000) ∷ digit (n / 100) ∷ digit (n / 10) ∷ []) (omega (arith, low)) (omega (arith, high)) refl
    (decimal_three (n / 10) (omega (arith, low)) (omega (arith, high)) ∙ ap (λ k. digit k ∷ digit (n / 10 / 10) ∷ digit (n / 10) ∷ []) e ∙ ap (λ k. digit (n / 1000) ∷ digit k ∷ digit (n / 10) ∷ []) f)

-- four digits behind the others
decimal_by_four : (n : ℕ) → 10000 ≤ n → n < 2 ^ 64 → decimal n ≡ decimal (n / 10000) ++ last_four n
decimal_by_four n low small =
    let thousands : n / 1000 / 10 ≡ n / 10000 = omega arith in
    let hundreds : n / 100 / 10 ≡ n / 1000 = omega arith in
    let tens : n / 10 / 10 ≡ n / 100 = omega arith in
    let front : List ℕ = decimal (n / 10000) in
    behind n (n / 10) _ (omega (arith, low)) small refl
    (behind (n / 10) (n / 100) _ (omega (arith, low)) (omega (arith, small)) tens
    (behind (n / 100) (n / 1000) _ (omega (arith, low)) (omega (arith, small)) hundreds
    (behind (n / 1000) (n / 10000) front (omega (arith, low)) (omega (arith, small)) thousands refl)))
    ∙ pieces front (digit (n / 1000)) (digit (n / 100)) (digit (n / 10)) (digit n)
  where
    pieces : (f : List ℕ) (a b c d : ℕ) → (((f ++ (a ∷ [])) ++ (b ∷ [])) ++ (c ∷ [])) ++ (d ∷ []) ≡ f ++ (a ∷ b ∷ c ∷ d ∷ [])
    pieces f a b c d = simp append_assoc

-- the last digits of a number are those of what is left of it
four_of_rest : (n : ℕ) → last_four n ≡ last_four (n % 10000)
four_of_rest n =
    let a : n / 1000 % 10 ≡ n % 10000 / 1000 % 10 = omega arith in
    let b : n / 100 % 10 ≡ n % 10000 / 100 % 10 = omega arith in
    let c : n / 10 % 10 ≡ n % 10000 / 10 % 10 = omega arith in
    let d : n % 10 ≡ n % 10000 % 10 = omega arith in
    rw (a, b, c, d) refl

-- eight digits behind the others
decimal_by_eight : (n : ℕ) → 100000000 ≤ n → n < 2 ^ 64 → decimal n ≡ decimal (n / 100000000) ++ last_eight (n % 100000000)
decimal_by_eight n low small =
    let fours : n / 10000 / 10000 ≡ n / 100000000 = omega arith in
    let high : n % 100000000 / 10000 ≡ n / 10000 % 10000 = omega arith in
    let low_rest : n % 100000000 % 10000 ≡ n % 10000 = omega arith in
    let ends : last_four n ≡ last_four (n % 100000000) = four_of_rest n ∙ ap last_four (sym low_rest) ∙ sym (four_of_rest (n % 100000000)) in
    let middle : last_four (n / 10000) ≡ last_four (n % 100000000 / 10000) = four_of_rest (n / 10000) ∙ ap last_four (sym high) in
    decimal_by_four n (omega (arith, low)) small
    ∙ ap (λ t. t ++ last_four n) (decimal_by_four (n / 10000) (omega (arith, low)) (omega (arith, small)))
    ∙ append_assoc (decimal (n / 10000 / 10000)) (last_four (n / 10000)) (last_four n)
    ∙ ap (λ k. decimal k ++ (last_four (n / 10000) ++ last_four n)) fours
    ∙ ap (λ t. decimal (n / 100000000) ++ (t ++ last_four n)) middle
    ∙ ap (λ t. decimal (n / 100000000) ++ (last_four (n % 100000000 / 10000) ++ t)) ends

-- a number written in two pieces
pub four_behind : (old p q : List ℕ) (n : ℕ) → 10000 ≤ n → n < 2 ^ 64 → p ≡ old ++ decimal (n / 10000) → q ≡ p ++ last_four (n % 10000) → q ≡ old ++ decimal n
four_behind old p q n low small e f = f ∙ ap (λ t. p ++ t) (sym (four_of_rest n)) ∙ ap (λ t. t ++ last_four n) e ∙ append_assoc old (decimal (n / 10000)) (last_four n) ∙ ap (λ t. old ++ t) (sym (decimal_by_four n low small))

pub eight_behind : (old p q : List ℕ) (n : ℕ) → 100000000 ≤ n → n < 2 ^ 64 → p ≡ old ++ decimal (n / 100000000) → q ≡ p ++ last_eight (n % 100000000) → q ≡ old ++ decimal n
eight_behind old p q n low small e f = f ∙ ap (λ t. t ++ last_eight (n % 100000000)) e ∙ append_assoc old (decimal (n / 100000000)) (last_eight (n % 100000000)) ∙ ap (λ t. old ++ t) (sym (decimal_by_eight n low small))
