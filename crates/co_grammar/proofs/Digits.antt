-- Few digits at the front of a text, and the words that they are.
use Rattle.std.proofs.Common.{◌≡◌, ℕ, ◌+◌, ◌-◌, ◌*◌, ◌^◌, ◌<◌, ◌≤◌, true, false, cond, [], ◌∷◌, length, take, drop, refl, ap, sym, ◌∙◌, arith}
use Rattle.std.specs.Prelude.{Some, Ok, nat_le, nat_lt, ◌==◌}
use Rattle.std.specs.List.{list_all, take_while}
use Rattle.std.specs.Char.{is_ascii_digit}
use Rattle.std.proofs.lemmas.Bool.Decides.{nat_tests}
use Rattle.std.proofs.lemmas.List.Sums.{take_while-cons}
use Rattle.std.proofs.Math.Nat.{pow-le-pow_right}
use Rattle.co_sbt.specs.Seconds.{seconds, seconds_and}
use Rattle.co_text.specs.Fallible.{some_or}
use Rattle.co_text.specs.Values.{Word, spelled_after, number, time}
use Rattle.co_text.specs.declared.Cause.TheVariants.{Form}
use Rattle.co_text.proofs.LinesBack.{and_left, and_right}
use Rattle.co_grammar.specs.Ahead.{SpellsFew}

-- digits so far, and what they spell
pub record Spelled (w : Word) (i n : ℕ) : Type 0 where
  pub digits : SpellsFew (take i w) n
  pub below : n < 10 ^ i
  pub few : i ≤ 18

pub below-most : (w : Word) (i n : ℕ) → Spelled w i n → n < 10 ^ 18
below-most w i n s =
    let most : 10 ^ i ≤ 10 ^ 18 = pow-le-pow_right {n = 10} (omega arith) s.few in
    omega (arith, most, s.below)

-- words of digits

pub number-read : (w : Word) (n : ℕ) → 0 < length w → SpellsFew w n → number w ≡ Ok n
number-read w n some s =
    let low : nat_le 1 (length w) ≡ true = grind (arith, nat_tests) in
    let high : nat_le (length w) 20 ≡ true = let few = s.few in grind (arith, nat_tests) in
    rw (low, high, s.all) (ap (λ k. Ok k) (sym s.spells))

pub units-read : (w : Word) (n : ℕ) → 0 < length w → SpellsFew w n → n < 2 ^ 63 → time (117 ∷ w) ≡ Ok n
units-read w n some s small =
    let low : nat_le 1 (length w) ≡ true = grind (arith, nat_tests) in
    let high : nat_le (length w) 19 ≡ true = let few = s.few in grind (arith, nat_tests) in
    let fits : nat_lt (spelled_after 0 w) (2 ^ 63) ≡ true = ap (λ k. nat_lt k (2 ^ 63)) (sym s.spells) ∙ below n small in
    rw (low, high, s.all, fits) (ap (λ k. Ok k) (sym s.spells))
  where
    below : (n : ℕ) → n < 2 ^ 63 → nat_lt n (2 ^ 63) ≡ true
    below n small = grind (arith, nat_tests)

all-taken : (w : Word) → list_all is_ascii_digit w ≡ true → take_while is_ascii_digit w ≡ w
all-taken [] e = refl
all-taken (c ∷ w) e =
    take_while-cons is_ascii_digit c w
    ∙ (ap (λ b. cond b (c ∷ take_while is_ascii_digit w) []) (and_left (is_ascii_digit c) _ e)
    ∙ ap (λ t. c ∷ t) (all-taken w (and_right (is_ascii_digit c) _ e)))

none-left : (w : Word) → drop (length w) w ≡ []
none-left [] = refl
none-left (c ∷ w) = none-left w

whole-seconds : (w : Word) (n : ℕ) → 0 < length w → length w ≤ 10 → SpellsFew w n → n < 2 ^ 31 → seconds w ≡ Some (n * 2 ^ 32)
whole-seconds w n some few s small =
    let taken : take_while is_ascii_digit w ≡ w = all-taken w s.all in
    let low : nat_le 1 (length w) ≡ true = grind (arith, nat_tests) in
    let high : nat_le (length w) 10 ≡ true = grind (arith, nat_tests) in
    let fits : nat_lt (spelled_after 0 w) (2 ^ 31) ≡ true = ap (λ k. nat_lt k (2 ^ 31)) (sym s.spells) ∙ below n small in
    let sum : spelled_after 0 w * 2 ^ 32 + 0 ≡ n * 2 ^ 32 = ap (λ k. k * 2 ^ 32 + 0) (sym s.spells) ∙ plain (n * 2 ^ 32) in
    ap (λ t. seconds_and t (drop (length t) w)) taken
    ∙ (ap (seconds_and w) (none-left w)
    ∙ rw (low, high, s.all, fits) (ap (λ k. Some k) sum))
  where
    below : (n : ℕ) → n < 2 ^ 31 → nat_lt n (2 ^ 31) ≡ true
    below n small = grind (arith, nat_tests)

    plain : (n : ℕ) → n + 0 ≡ n
    plain n = omega arith

no-letter : (c : ℕ) → is_ascii_digit c ≡ true → (c == 117) ≡ false
no-letter c e = grind (arith, nat_tests)

pub seconds-read : (w : Word) (n : ℕ) → 0 < length w → length w ≤ 10 → SpellsFew w n → n < 2 ^ 31 → time w ≡ Ok (n * 2 ^ 32)
seconds-read [] n some few s small = absurd (omega (arith, some))
seconds-read (c ∷ w) n some few s small = rw (no-letter c (and_left (is_ascii_digit c) _ s.all)) (ap (λ t. some_or t Form) (whole-seconds (c ∷ w) n some few s small))
