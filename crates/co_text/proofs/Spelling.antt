-- A number is spelled four digits at once.
use Rattle.std.proofs.Common.{◌≡◌, ℕ, ◌+◌, ◌-◌, ◌*◌, ◌^◌, ◌<◌, ◌≤◌, true, List, [], ◌∷◌, ◌++◌, length, get_or, take, drop, refl, ap, ◌∙◌, arith}
use Rattle.std.specs.List.{list_all}
use Rattle.std.specs.Prelude.{slice_index_or}
use Rattle.std.specs.Char.{is_ascii_digit}
use Rattle.std.proofs.lemmas.List.{take_all, take_more}
use Rattle.std.proofs.lemmas.List.Folds.{list_all-append}
use Rattle.std.proofs.lemmas.List.Sums.{fold-append}
use Rattle.std.proofs.lemmas.Nat.{pow-add}
use Rattle.std.proofs.Math.Nat.{pow-le-pow_right}
use Rattle.co_text.specs.Values.{IsLeft, spelled_after}

four_places : (long short here : ℕ) → here ≡ short + 4 → here ≤ long → 10 ^ (long - short) ≡ 10 ^ (long - here) * 10000
four_places long short here e within =
    let apart : long - short ≡ long - here + 4 = omega (arith, e, within) in
    ap (λ n. 10 ^ n) apart ∙ pow-add 10 (long - here) 4

-- four digits more
pub four_spelled : (w rest after : List ℕ) (value a b c d : ℕ) → IsLeft w rest value → 4 ≤ length rest → after ≡ take (length rest - 4) (drop 4 rest)
    → a ≤ 9 → (is_ascii_digit (slice_index_or rest 0 0) ≡ true) × (slice_index_or rest 0 0 ≡ 48 + a)
    → b ≤ 9 → (is_ascii_digit (slice_index_or rest 1 0) ≡ true) × (slice_index_or rest 1 0 ≡ 48 + b)
    → c ≤ 9 → (is_ascii_digit (slice_index_or rest 2 0) ≡ true) × (slice_index_or rest 2 0 ≡ 48 + c)
    → d ≤ 9 → (is_ascii_digit (slice_index_or rest 3 0) ≡ true) × (slice_index_or rest 3 0 ≡ 48 + d)
    → IsLeft w after (10000 * value + (1000 * a + 100 * b + 10 * c + d))
four_spelled w [] after value a b c d l some e al pa bl qb cl rc dl sd = absurd (omega (arith, some))
four_spelled w (p ∷ []) after value a b c d l some e al pa bl qb cl rc dl sd = absurd (omega (arith, some))
four_spelled w (p ∷ q ∷ []) after value a b c d l some e al pa bl qb cl rc dl sd = absurd (omega (arith, some))
four_spelled w (p ∷ q ∷ r ∷ []) after value a b c d l some e al pa bl qb cl rc dl sd = absurd (omega (arith, some))
four_spelled w (p ∷ q ∷ r ∷ s ∷ rest) after value a b c d l some e al pa bl qb cl rc dl sd =
    let same : length (p ∷ q ∷ r ∷ s ∷ rest) - 4 ≡ length rest = omega arith in
    let is : after ≡ rest = e ∙ take_all (length (p ∷ q ∷ r ∷ s ∷ rest) - 4) rest (omega (arith, same)) in
    let places = four_places (length w) (length rest) (length (p ∷ q ∷ r ∷ s ∷ rest)) (omega arith) l.short in
    let more : ((((value * 10 + (p - 48)) * 10 + (q - 48)) * 10 + (r - 48)) * 10 + (s - 48)) ≡ 10000 * value + (1000 * a + 100 * b + 10 * c + d) = omega (arith, pa.1, qb.1, rc.1, sd.1) in
    rw is (record {
      short = omega (arith, l.short);
      digits = l.digits ∙ rw (pa.0, qb.0, rc.0, sd.0) refl;
      spells = l.spells ∙ ap (λ n. spelled_after n rest) more;
      below = omega (arith, places, l.below, al, bl, cl, dl);
    })

-- a digit more
pub ten_more : (k m n d : ℕ) → m ≡ k + 1 → n < 10 ^ k → d ≤ 9 → n * 10 + d < 10 ^ m
ten_more k m n d e below digit =
    let more : 10 ^ m ≡ 10 ^ k * 10 = ap (λ j. 10 ^ j) e ∙ pow-add 10 k 1 in
    omega (arith, more, below, digit)

-- fewer digits spell less
pub ten_most : (k m n : ℕ) → k ≤ m → n < 10 ^ k → n < 10 ^ m
ten_most k m n few below =
    let most : 10 ^ k ≤ 10 ^ m = pow-le-pow_right {n = 10} (omega arith) few in
    omega (arith, most, below)

-- one digit more
pub digit_more : (w : List ℕ) (i n v d : ℕ) → i < length w → list_all is_ascii_digit (take i w) ≡ true → v ≡ spelled_after n (take i w) → (is_ascii_digit (get_or w i 0) ≡ true) × (get_or w i 0 ≡ 48 + d)
    → (list_all is_ascii_digit (take (i + 1) w) ≡ true) × (v * 10 + d ≡ spelled_after n (take (i + 1) w))
digit_more w i n v d within all is digit =
    let next : take (i + 1) w ≡ take i w ++ get_or w i 0 ∷ [] = take_more w i 0 within in
    let last : spelled_after n (take i w ++ get_or w i 0 ∷ []) ≡ spelled_after n (take i w) * 10 + (get_or w i 0 - 48) = fold-append (λ k c. k * 10 + (c - 48)) n (take i w) (get_or w i 0 ∷ []) in (
      rw (next, list_all-append is_ascii_digit (take i w) (get_or w i 0 ∷ []), all, digit.0) refl,
      rw (next, last) (omega (arith, is, digit.1)),
    )
