-- Where no number of a report is wrong, each actor's lines have the numbers below their count, each once.
use Rattle.std.proofs.Common.{◌≡◌, ℕ, zero, suc, ◌+◌, ◌<◌, ◌≤◌, ◌==◌, ◌&&◌, ◌||◌, Bool, true, false, cond, nat_lt, nat_le, List, [], ◌∷◌, ◌++◌, take, append_assoc, refl, ap, sym, ◌∙◌, arith}
use Rattle.std.specs.Prelude.{Option, Some, None, slice_get}
use Rattle.std.specs.List.{list_any}
use Rattle.std.proofs.lemmas.Bool.Decides.{nat_tests}
use Rattle.co_object.proofs.Passing.{passing, count-passing, passing-none}
use Rattle.co_report.specs.declared.line.Line.{Line}
use Rattle.co_check.specs.declared.verdict.Unfit.{Unfit}
use Rattle.co_check.specs.declared.verdict.Unfit.TheVariants.{Number}
use Rattle.co_check.specs.Numbers.{lines_made_by, is_beyond, is_taken, falls, number_at, first_misnumbered}
use Rattle.co_check.specs.Replay.{Bad, bad_or, first_bad}
use Rattle.co_check.specs.Shown.{actor_of, is_by, is_note}
use Rattle.co_check.proofs.Counting.{none-any, is_below, below-split}
use Rattle.co_check.proofs.SameValues.{equal, itself, first, second, all}
use Rattle.co_check.proofs.Taking.{some-is}

-- ---- nothing is wrong with any line

bad-none : (o : Option Unfit) (line : ℕ) (rest : Option Bad) → bad_or o line rest ≡ None → (o ≡ None) × (rest ≡ None)
bad-none None line rest h = (refl, h)
bad-none (Some cause) line rest h = let no : ◌≡◌ {A = Option Bad} (Some (record { line = line; cause = cause })) None = h in cc

pub append-nil : {X : Type 0} (xs : List X) → xs ++ [] ≡ xs
append-nil [] = refl
append-nil (x ∷ xs) = ap (λ ys. x ∷ ys) (append-nil xs)

pub fine-behind : (wrong : List Line → Line → Option Unfit) (above lines : List Line) → first_bad wrong above lines ≡ None → (j : ℕ) (l : Line) → slice_get lines j ≡ Some l → wrong (above ++ take j lines) l ≡ None
fine-behind wrong above [] h j l at = cc
fine-behind wrong above (x ∷ xs) h zero l at =
    ap (λ (ls : List Line). wrong ls l) (append-nil above) ∙ (ap (wrong above) (sym (some-is x l at)) ∙ (bad-none (wrong above x) x.line (first_bad wrong (above ++ x ∷ []) xs) h).0)
fine-behind wrong above (x ∷ xs) h (suc j) l at =
    ap (λ (ls : List Line). wrong ls l) (sym (append_assoc above (x ∷ []) (take j xs)))
    ∙ fine-behind wrong (above ++ x ∷ []) xs (bad-none (wrong above x) x.line (first_bad wrong (above ++ x ∷ []) xs) h).1 j l at

none-found : (b c d : Bool) → cond {A = Option Unfit} (b || c || d) (Some Number) None ≡ None → (b ≡ false) × (c ≡ false) × (d ≡ false)
none-found true c d h = cc
none-found false true d h = cc
none-found false false true h = cc
none-found false false false h = (refl, refl, refl)

-- what is right about a line's number
pub record IsNumbered (lines : List Line) (j : ℕ) (l : Line) : Type 0 where
  pub below : l.number < lines_made_by (actor_of l.entry) lines
  pub free : list_any (is_note (actor_of l.entry) l.number) (take j lines) ≡ false
  pub rises : falls (take j lines) l ≡ false

within : (n m : ℕ) → nat_le n m ≡ false → m < n
within n m h = grind (arith, nat_tests)

pub numbers-right : (lines : List Line) → first_misnumbered lines ≡ None → (j : ℕ) (l : Line) → slice_get lines j ≡ Some l → IsNumbered lines j l
numbers-right lines h j l at =
    let r = none-found (is_beyond lines l) (is_taken (take j lines) l) (falls (take j lines) l) (fine-behind (number_at lines) [] lines h j l at) in
    record { below = within (lines_made_by (actor_of l.entry) lines) l.number r.0; free = r.1; rises = r.2 }

-- ---- each number once

or-first : (b c : Bool) → (b || c) ≡ false → b ≡ false
or-first false c h = refl
or-first true c h = h

or-second : (b c : Bool) → (b || c) ≡ false → c ≡ false
or-second false c h = h
or-second true c h = cc

same-note : (a k : ℕ) (x y : Line) → is_note a k x ≡ true → is_note a k y ≡ true → is_note (actor_of y.entry) y.number x ≡ true
same-note a k x y hx hy =
    let bx = equal (actor_of x.entry) a (first (actor_of x.entry == a) (x.number == k) hx) in
    let by = equal (actor_of y.entry) a (first (actor_of y.entry == a) (y.number == k) hy) in
    let nx = equal x.number k (second (actor_of x.entry == a) (x.number == k) hx) in
    let ny = equal y.number k (second (actor_of y.entry == a) (y.number == k) hy) in
    all (actor_of x.entry == actor_of y.entry) (x.number == y.number)
    (ap (λ m. m == actor_of y.entry) (bx ∙ sym by) ∙ itself (actor_of y.entry))
    (ap (λ m. m == y.number) (nx ∙ sym ny) ∙ itself y.number)

few-notes : (a k : ℕ) (lines : List Line) → ((j : ℕ) (l : Line) → slice_get lines j ≡ Some l → list_any (is_note (actor_of l.entry) l.number) (take j lines) ≡ false) → passing (is_note a k) lines ≤ 1
few-notes a k [] free = omega arith
few-notes a k (x ∷ xs) free =
    at_test (is_note a k x) refl (few-notes a k xs (λ i l at. or-second (is_note (actor_of l.entry) l.number x) (list_any (is_note (actor_of l.entry) l.number) (take i xs)) (free (suc i) l at))) where
      another : is_note a k x ≡ true → (i : ℕ) (y : Line) → slice_get xs i ≡ Some y → is_note a k y ≡ true → ⊥
      another is i y at h =
          let none = or-first (is_note (actor_of y.entry) y.number x) (list_any (is_note (actor_of y.entry) y.number) (take i xs)) (free (suc i) y at) in
          let some = same-note a k x y is h in
          cc

      at_test : (b : Bool) → is_note a k x ≡ b → passing (is_note a k) xs ≤ 1 → cond b 1 0 + passing (is_note a k) xs ≤ 1
      at_test false is rest = omega (arith, rest)
      at_test true is rest = omega (arith, passing-none (is_note a k) xs (none-any (is_note a k) xs (another is)))

pub passing-alike : {X : Type 0} (p q : X → Bool) (xs : List X) → ((i : ℕ) (x : X) → slice_get xs i ≡ Some x → p x ≡ q x) → passing p xs ≡ passing q xs
passing-alike p q [] h = refl
passing-alike p q (x ∷ xs) h = ap (λ b. cond b 1 0 + passing p xs) (h zero x refl) ∙ ap (λ n. cond (q x) 1 0 + n) (passing-alike p q xs (λ i y at. h (suc i) y at))

below-none : (a : ℕ) (xs : List Line) → passing (is_below a 0) xs ≡ 0
below-none a [] = refl
below-none a (x ∷ xs) = omega (arith, ap (λ b. cond {A = ℕ} b 1 0) (none (is_by a x) x.number), below-none a xs) where
  none : (b : Bool) (n : ℕ) → (b && nat_lt n 0) ≡ false
  none true n = grind (arith, nat_tests)
  none false n = refl

module _ (lines : List Line) (right : (j : ℕ) (l : Line) → slice_get lines j ≡ Some l → IsNumbered lines j l) where
  few : (a k : ℕ) → passing (is_note a k) lines ≤ 1
  few a k = few-notes a k lines (λ j l at. (right j l at).free)

  few-below : (a m d : ℕ) → passing (is_below a (m + d)) lines ≤ passing (is_below a m) lines + d
  few-below a m zero = ap-le (ap (λ n. passing (is_below a n) lines) (start m)) where
    start : (n : ℕ) → n + zero ≡ n
    start n = omega arith

    ap-le : passing (is_below a (m + zero)) lines ≡ passing (is_below a m) lines → passing (is_below a (m + zero)) lines ≤ passing (is_below a m) lines + zero
    ap-le e = omega (arith, e)
  few-below a m (suc d) = then (few-below a m d) (ap (λ n. passing (is_below a n) lines) (next m d)) where
    next : (n k : ℕ) → n + suc k ≡ suc (n + k)
    next n k = omega arith

    then : passing (is_below a (m + d)) lines ≤ passing (is_below a m) lines + d → passing (is_below a (m + suc d)) lines ≡ passing (is_below a (suc (m + d))) lines → passing (is_below a (m + suc d)) lines ≤ passing (is_below a m) lines + suc d
    then less e = omega (arith, e, below-split a (m + d) lines, few a (m + d), less)

  -- all of an actor's lines have numbers below their count
  pub all-below : (a : ℕ) (l : Line) (j : ℕ) → slice_get lines j ≡ Some l → is_below a (lines_made_by a lines) l ≡ is_by a l
  all-below a l j at = at_test (is_by a l) refl where
    lower : (m n : ℕ) → m < n → nat_lt m n ≡ true
    lower m n h = grind (arith, nat_tests)

    at_test : (b : Bool) → is_by a l ≡ b → (b && nat_lt l.number (lines_made_by a lines)) ≡ b
    at_test false is = refl
    at_test true is =
        let by : actor_of l.entry ≡ a = equal (actor_of l.entry) a is in
        let below : l.number < lines_made_by (actor_of l.entry) lines = (right j l at).below in
        lower l.number (lines_made_by a lines) (omega (arith, below, ap (λ b. lines_made_by b lines) by))

  -- each number below the count has exactly one line
  pub one-note : (a k : ℕ) → k < lines_made_by a lines → passing (is_note a k) lines ≡ 1
  one-note a k below = then (lines_made_by a lines) refl below where
    whole : passing (is_below a (lines_made_by a lines)) lines ≡ lines_made_by a lines
    whole = passing-alike (is_below a (lines_made_by a lines)) (is_by a) lines (λ j l at. all-below a l j at) ∙ sym (count-passing (is_by a) lines)

    sum : (n d : ℕ) → suc k + d ≡ n → n ≡ lines_made_by a lines → passing (is_below a (suc k + d)) lines ≡ suc k + d
    sum n d e is = ap (λ m. passing (is_below a m) lines) (e ∙ is) ∙ (whole ∙ sym (e ∙ is))

    then : (n : ℕ) → n ≡ lines_made_by a lines → k < n → passing (is_note a k) lines ≡ 1
    then n is below = by_rest (rest-of n below) where
      rest-of : (n : ℕ) → k < n → (d : ℕ) × (suc k + d ≡ n)
      rest-of zero h = absurd (omega arith)
      rest-of (suc n) h = go (nat_lt k n) refl (λ h'. rest-of n h') where
        lt : nat_lt k n ≡ true → k < n
        lt e = grind (arith, nat_tests)

        last : nat_lt k n ≡ false → suc k + 0 ≡ suc n
        last e = let ge : n ≤ k = grind (arith, nat_tests) in omega (arith, ge, h)

        go : (b : Bool) → nat_lt k n ≡ b → (k < n → (d : ℕ) × (suc k + d ≡ n)) → (d : ℕ) × (suc k + d ≡ suc n)
        go true e later = let r = later (lt e) in (suc r.0, omega (arith, r.1))
        go false e later = (0, last e)

      by_rest : (r : (d : ℕ) × (suc k + d ≡ n)) → passing (is_note a k) lines ≡ 1
      by_rest (d, e) =
          let low = few-below a 0 k in
          let high = few-below a (suc k) d in
          let zero_below = ap (λ m. passing (is_below a m) lines) (zero-is k) in
          omega (arith, sum n d e is, high, below-split a k lines, few a k, low, zero_below, below-none a lines)
        where
          zero-is : (m : ℕ) → 0 + m ≡ m
          zero-is m = omega arith
