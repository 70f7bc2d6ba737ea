-- Lines by index, and how many of them pass a test.
use Rattle.std.proofs.Common.{◌≡◌, ℕ, zero, suc, ◌+◌, ◌<◌, ◌≤◌, ◌==◌, ◌&&◌, ◌||◌, Bool, true, false, cond, nat_lt, List, [], ◌∷◌, take, drop, length, refl, ap, ◌∙◌, arith}
use Rattle.std.specs.Prelude.{Option, Some, None, slice_get}
use Rattle.std.specs.List.{list_any, count_by}
use Rattle.std.proofs.lemmas.Bool.Decides.{nat_tests}
use Rattle.co_object.proofs.Passing.{passing, count-passing}
use Rattle.co_report.specs.declared.line.Line.{Line}
use Rattle.co_check.specs.declared.verdict.Unfit.{Unfit}
use Rattle.co_check.specs.Index.{index_of}
use Rattle.co_check.specs.Numbers.{lines_made_by}
use Rattle.co_check.specs.Replay.{first_bad}
use Rattle.co_check.specs.Shown.{is_by, is_note}
use Rattle.co_check.proofs.Along.{first-on}
use Rattle.co_check.proofs.Taking.{some-is}

-- ---- by index

pub any-at : {X : Type 0} (p : X → Bool) (xs : List X) (j : ℕ) (x : X) → slice_get xs j ≡ Some x → p x ≡ true → list_any p xs ≡ true
any-at p [] j x h t = cc
any-at p (y ∷ ys) zero x h t = ap (λ b. b || list_any p ys) (ap p (some-is y x h) ∙ t)
any-at p (y ∷ ys) (suc j) x h t = ap (λ b. p y || b) (any-at p ys j x h t) ∙ or-true (p y) where
  or-true : (b : Bool) → (b || true) ≡ true
  or-true true = refl
  or-true false = refl

pub none-any : {X : Type 0} (p : X → Bool) (xs : List X) → ((i : ℕ) (x : X) → slice_get xs i ≡ Some x → p x ≡ true → ⊥) → list_any p xs ≡ false
none-any p [] none = refl
none-any p (y ∷ ys) none = at_test (p y) refl (none-any p ys (λ i x h. none (suc i) x h)) where
  at_test : (b : Bool) → p y ≡ b → list_any p ys ≡ false → (b || list_any p ys) ≡ false
  at_test true is rest = absurd (none zero y refl is)
  at_test false is rest = rest

pub take-get : {X : Type 0} (j : ℕ) (xs : List X) (i : ℕ) (x : X) → slice_get (take j xs) i ≡ Some x → (i < j) × (slice_get xs i ≡ Some x)
take-get zero xs i x h = let e : None ≡ Some x = h in cc
take-get (suc j) [] i x h = cc
take-get (suc j) (y ∷ ys) zero x h = (omega arith, h)
take-get (suc j) (y ∷ ys) (suc i) x h = let r = take-get j ys i x h in (omega (arith, r.0), r.1)

pub index-is : (p : Line → Bool) (at : ℕ) (lines : List Line) (j : ℕ) (l : Line) → slice_get lines j ≡ Some l → p l ≡ true → list_any p (take j lines) ≡ false → index_of p at lines ≡ Some (at + j)
index-is p at [] j l h t none = cc
index-is p at (x ∷ xs) zero l h t none = ap (λ b. cond {A = Option ℕ} b (Some at) (index_of p (at + 1) xs)) (ap p (some-is x l h) ∙ t) ∙ ap Some (omega arith)
index-is p at (x ∷ xs) (suc j) l h t none = at_test (p x) none (λ rest. index-is p (at + 1) xs j l h t rest) where
  at_test : (b : Bool) → (b || list_any p (take j xs)) ≡ false → (list_any p (take j xs) ≡ false → index_of p (at + 1) xs ≡ Some (at + 1 + j)) → cond {A = Option ℕ} b (Some at) (index_of p (at + 1) xs) ≡ Some (at + suc j)
  at_test true rest later = cc
  at_test false rest later = later rest ∙ ap Some (omega arith)

-- nothing is wrong where nothing is wrong with any line
pub none-bad : (wrong : List Line → Line → Option Unfit) (lines : List Line) → ((j : ℕ) (l : Line) → slice_get lines j ≡ Some l → wrong (take j lines) l ≡ None) → first_bad wrong [] lines ≡ None
none-bad wrong lines fine = along (length lines) 0 (omega arith) where
  along : (n k : ℕ) → n + k ≡ length lines → first_bad wrong (take k lines) (drop k lines) ≡ None
  along zero k h = ap (first_bad wrong (take k lines)) (past lines k (omega arith)) where
    past : (xs : List Line) (k : ℕ) → length xs ≤ k → drop k xs ≡ []
    past [] zero h = refl
    past [] (suc k) h = refl
    past (x ∷ xs) zero h = absurd (omega arith)
    past (x ∷ xs) (suc k) h = past xs k (omega arith)
  along (suc n) k h =
      let x : (l : Line) × (slice_get lines k ≡ Some l) = some_line lines k (omega arith) in
      first-on wrong lines k x.0 x.1 (fine k x.0 x.1) ∙ along n (k + 1) (omega arith) where
        some_line : (xs : List Line) (k : ℕ) → k < length xs → (l : Line) × (slice_get xs k ≡ Some l)
        some_line [] k h = absurd (omega arith)
        some_line (x ∷ xs) zero h = (x, refl)
        some_line (x ∷ xs) (suc k) h = some_line xs k (omega arith)

-- ---- counts

module _ (p : Line → Bool) where
  take-few : (xs : List Line) (m n : ℕ) → m ≤ n → passing p (take m xs) ≤ passing p (take n xs)
  take-few [] zero zero h = omega arith
  take-few [] zero (suc n) h = omega arith
  take-few [] (suc m) zero h = omega arith
  take-few [] (suc m) (suc n) h = omega arith
  take-few (x ∷ xs) zero n h = omega arith
  take-few (x ∷ xs) (suc m) zero h = absurd (omega arith)
  take-few (x ∷ xs) (suc m) (suc n) h = omega (arith, take-few xs m n (omega arith))

  take-more : (xs : List Line) (i : ℕ) (x : Line) → slice_get xs i ≡ Some x → p x ≡ true → passing p (take (suc i) xs) ≡ suc (passing p (take i xs))
  take-more [] i x h t = cc
  take-more (y ∷ ys) zero x h t = ap (λ b. cond b 1 0 + 0) (ap p (some-is y x h) ∙ t)
  take-more (y ∷ ys) (suc i) x h t = let rest = take-more ys i x h t in omega (arith, rest)

  -- fewer stand above an earlier one
  pub count-rises : (lines : List Line) (i j : ℕ) (x : Line) → slice_get lines i ≡ Some x → p x ≡ true → i < j → count_by p (take i lines) < count_by p (take j lines)
  count-rises lines i j x h t below =
      let more = take-more lines i x h t in
      let few = take-few lines (suc i) j (omega arith) in
      omega (arith, more, few, count-passing p (take i lines), count-passing p (take j lines))

any-passing : (p : Line → Bool) (xs : List Line) → list_any p xs ≡ true → 1 ≤ passing p xs
any-passing p [] h = cc
any-passing p (x ∷ xs) h = at_test (p x) h (λ g. any-passing p xs g) where
  at_test : (b : Bool) → (b || list_any p xs) ≡ true → (list_any p xs ≡ true → 1 ≤ passing p xs) → 1 ≤ cond b 1 0 + passing p xs
  at_test true g later = omega arith
  at_test false g later = omega (arith, later g)

-- an actor's notes of lower numbers
abbrev pub is_below : ℕ → ℕ → Line → Bool
is_below a n l = is_by a l && nat_lt l.number n

pub one-split : (by : Bool) (m n : ℕ) → cond (by && nat_lt m (suc n)) 1 0 ≡ cond (by && nat_lt m n) 1 0 + cond (by && m == n) 1 0
one-split true m n = grind (arith, nat_tests)
one-split false m n = refl

pub below-split : (a n : ℕ) (xs : List Line) → passing (is_below a (suc n)) xs ≡ passing (is_below a n) xs + passing (is_note a n) xs
below-split a n [] = refl
below-split a n (x ∷ xs) = omega (arith, one-split (is_by a x) x.number n, below-split a n xs)

one-few : (by c : Bool) → cond (by && c) 1 0 ≤ cond by 1 0
one-few true true = omega arith
one-few true false = omega arith
one-few false c = omega arith

below-few : (a n : ℕ) (xs : List Line) → passing (is_below a n) xs ≤ passing (is_by a) xs
below-few a n [] = omega arith
below-few a n (x ∷ xs) = omega (arith, one-few (is_by a x) (nat_lt x.number n), below-few a n xs)

-- where each number below n stands, there are so many lines of the actor
pub count-enough : (lines : List Line) (a n : ℕ) → ((k : ℕ) → k < n → list_any (is_note a k) lines ≡ true) → n ≤ lines_made_by a lines
count-enough lines a n each = omega (arith, enough n each, below-few a n lines, count-passing (is_by a) lines) where
  enough : (m : ℕ) → ((k : ℕ) → k < m → list_any (is_note a k) lines ≡ true) → m ≤ passing (is_below a m) lines
  enough zero each = omega arith
  enough (suc m) each = omega (arith, enough m (λ k h. each k (omega arith)), below-split a m lines, any-passing (is_note a m) lines (each m (omega arith)))
