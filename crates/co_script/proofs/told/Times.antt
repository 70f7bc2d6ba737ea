-- What is read as a time is one.
use Rattle.std.proofs.Common.{◌≡◌, ℕ, suc, ◌+◌, ◌-◌, ◌*◌, ◌/◌, ◌^◌, ◌<◌, ◌≤◌, Bool, true, false, ◌&&◌, List, [], ◌∷◌, length, refl, ap, sym, subst, ◌∙◌, arith}
use Rattle.std.specs.Prelude.{Option, Some, None, Ok, ◌==◌, if◌then◌else◌, nat_lt, nat_le, fold, drop}
use Rattle.std.specs.List.{list_all, take_while}
use Rattle.std.specs.Char.{is_ascii_digit}
use Rattle.std.specs.Option.{option_map}
use Rattle.std.proofs.lemmas.Bool.{ltb-true, lt-ltb}
use Rattle.std.proofs.lemmas.Nat.{div_below}
use Rattle.std.proofs.Math.Nat.{mul-le-mul_right, mul_assoc, pow-succ'}
use Rattle.co_object.proofs.Changes.{both_true}
use Rattle.co_sbt.specs.Seconds.{are_digits, number as spelled, units_of, fraction, seconds_and, seconds}
use Rattle.co_text.specs.Fallible.{unless, some_or}
use Rattle.co_text.specs.Values.{Word, time, units, digits, small}
use Rattle.co_text.specs.declared.Cause.TheVariants.{Form}
use Rattle.co_script.specs.Fits.{is_time}
use Rattle.co_script.proofs.told.Steps.{bind-ok, unless-ok, cond-ok}

-- digits spell a number below the power of ten of their count
spelled-below : (n : ℕ) (ds : List ℕ) → list_all is_ascii_digit ds ≡ true → fold (λ n c. n * 10 + (c - 48)) n ds < (n + 1) * 10 ^ length ds
spelled-below n [] h = omega arith
spelled-below n (c ∷ ds) h =
    let both = both_true (is_ascii_digit c) (list_all is_ascii_digit ds) h in
    let range = both_true (nat_le 48 c) (nat_le c 57) both.0 in
    let small : c ≤ 57 = grind (arith, range.1) in
    let rest = spelled-below (n * 10 + (c - 48)) ds both.1 in
    let step : n * 10 + (c - 48) + 1 ≤ (n + 1) * 10 = omega arith in
    let wide : (n * 10 + (c - 48) + 1) * 10 ^ length ds ≤ (n + 1) * 10 * 10 ^ length ds = mul-le-mul_right (10 ^ length ds) step in
    let power : 10 ^ suc (length ds) ≡ 10 * 10 ^ length ds = pow-succ' 10 (length ds) in
    let turned : (n + 1) * 10 * 10 ^ length ds ≡ (n + 1) * 10 ^ suc (length ds) = mul_assoc (n + 1) 10 (10 ^ length ds) ∙ ap (λ x. (n + 1) * x) (sym power) in
    omega (arith, rest, wide, turned)

fraction-below : (text : List ℕ) (t : ℕ) → fraction text ≡ Some t → t < 2 ^ 32
fraction-below [] t h = let zero_is : t ≡ 0 = cc in omega (arith, zero_is)
fraction-below (c ∷ ds) t h = go (c == 46) (are_digits 1 9 ds) refl h where
  go : (a b : Bool) → are_digits 1 9 ds ≡ b → (if a && b then Some (units_of ds) else None) ≡ Some t → t < 2 ^ 32
  go false b is k = cc
  go true false is k = cc
  go true true is k =
      let all = both_true (nat_le 1 (length ds) && nat_le (length ds) 9) (list_all is_ascii_digit ds) is in
      let below : spelled ds < (0 + 1) * 10 ^ length ds = spelled-below 0 ds all.1 in
      let power : 0 < 10 ^ length ds = omega (arith, below) in
      let units_is : t ≡ spelled ds * 2 ^ 32 / 10 ^ length ds = cc in
      let scaled : spelled ds * 2 ^ 32 < 2 ^ 32 * 10 ^ length ds = omega (arith, below) in
      let small : spelled ds * 2 ^ 32 / 10 ^ length ds < 2 ^ 32 = div_below (spelled ds * 2 ^ 32) (10 ^ length ds) (2 ^ 32) power scaled in
      rw units_is small

seconds-below : (text : List ℕ) (t : ℕ) → seconds text ≡ Some t → t < 2 ^ 63
seconds-below text t h = at_whole (take_while is_ascii_digit text) (drop (length (take_while is_ascii_digit text)) text) h where
  sum_of : (whole : List ℕ) (units : Option ℕ) (rest : List ℕ) → fraction rest ≡ units → spelled whole < 2 ^ 31 → option_map (λ u. spelled whole * 2 ^ 32 + u) units ≡ Some t → t < 2 ^ 63
  sum_of whole None rest is small k = cc
  sum_of whole (Some u) rest is small k =
      let below = fraction-below rest u is in
      let value : t ≡ spelled whole * 2 ^ 32 + u = cc in
      omega (arith, below, small, value)

  at_test : (whole rest : List ℕ) (a b : Bool) → nat_lt (spelled whole) (2 ^ 31) ≡ b → (if a && b then option_map (λ u. spelled whole * 2 ^ 32 + u) (fraction rest) else None) ≡ Some t → t < 2 ^ 63
  at_test whole rest false b is k = cc
  at_test whole rest true false is k = cc
  at_test whole rest true true is k = sum_of whole (fraction rest) rest refl (ltb-true (spelled whole) (2 ^ 31) is) k

  at_whole : (whole rest : List ℕ) → seconds_and whole rest ≡ Some t → t < 2 ^ 63
  at_whole whole rest k = at_test whole rest (are_digits 1 10 whole) (nat_lt (spelled whole) (2 ^ 31)) refl k

some_or-ok : {A E : Type 0} (o : Option A) (e : E) (x : A) → some_or o e ≡ Ok x → o ≡ Some x
some_or-ok None e x h = cc
some_or-ok (Some y) e x h = cc

small-ok : (u t : ℕ) → small u ≡ Ok t → is_time t ≡ true
small-ok u t h =
    let b = bind-ok (unless (nat_lt u (2 ^ 63)) Form) (λ _. Ok u) t h in
    let test = unless-ok (nat_lt u (2 ^ 63)) Form b.0 b.1 in
    let same : u ≡ t = cc in
    subst (λ v. nat_lt v (2 ^ 63) ≡ true) same test

-- what is read as a time is one
pub time-ok : (w : Word) (t : ℕ) → time w ≡ Ok t → is_time t ≡ true
time-ok [] t h = cc
time-ok (c ∷ w) t h =
    cond-ok (is_time t ≡ true) (c == 117) (units w) (some_or (seconds (c ∷ w)) Form) t
    (λ _ k. let b = bind-ok (digits 19 w) small t k in small-ok b.0 t b.2)
    (λ k. lt-ltb t (2 ^ 63) (seconds-below (c ∷ w) t (some_or-ok (seconds (c ∷ w)) Form t k)))
    h
