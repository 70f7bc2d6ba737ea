-- A list without one number, and a list in which no number stands twice.
use Rattle.std.proofs.Common.{◌≡◌, ℕ, ◌+◌, ◌≤◌, Bool, true, false, cond, not, ◌==◌, List, [], ◌∷◌, ◌++◌, refl, ap, sym, ◌∙◌, arith}
use Rattle.std.specs.List.{list_any}
use Rattle.co_object.proofs.Each.{Each, each-all, each-filter}
use Rattle.co_object.proofs.Numbers.{same_number, same_itself}
use Rattle.co_object.proofs.Passing.{passing}
use Rattle.co_queue.proofs.Order.{unlike}
use Rattle.co_queue.proofs.Lists.{filter_not-none, false-each}
use Rattle.co_bucket.specs.Rings.{without}
use Rattle.co_bucket.proofs.Paths.{Apart, IsDistinct}

pub none-apart : (i : ℕ) (xs : List ℕ) → Each (Apart i) xs → list_any (λ x. x == i) xs ≡ false
none-apart i xs h = false-each (λ x. x == i) xs (each-all (Apart i) (λ x. (x == i) ≡ false) (λ x apart. unlike x i apart) xs h)

pub without-none : (i : ℕ) (xs : List ℕ) → Each (Apart i) xs → without i xs ≡ xs
without-none i xs h = filter_not-none (λ x. x == i) xs (none-apart i xs h)

pub without-split : (i : ℕ) (front back : List ℕ) → IsDistinct (front ++ i ∷ back) → without i (front ++ i ∷ back) ≡ front ++ back
without-split i [] back h = ap (λ b. cond (not b) (i ∷ without i back) (without i back)) (same_itself i i refl) ∙ without-none i back h.0
without-split i (x ∷ front) back h =
    ap (λ b. cond (not b) (x ∷ without i (front ++ i ∷ back)) (without i (front ++ i ∷ back))) (unlike x i (λ e. middle front h.0 (sym e)))
    ∙ ap (λ ys. x ∷ ys) (without-split i front back h.1) where
      middle : (ys : List ℕ) → Each (Apart x) (ys ++ i ∷ back) → Apart x i
      middle [] g = g.0
      middle (y ∷ ys) g = middle ys g.1

pub each-kept : (Q : ℕ → Type 0) (i : ℕ) (xs : List ℕ) → Each Q xs → Each (λ x. Apart i x × Q x) (without i xs)
each-kept Q i xs h = each-filter Q (λ x. Apart i x × Q x) (λ x. not (x == i)) (λ x kept q. ((λ e. let same = same_itself x i e in at_test (x == i) same kept), q)) xs h where
  at_test : (b : Bool) → b ≡ true → not b ≡ true → ⊥
  at_test true h g = cc
  at_test false h g = cc

pub distinct-once : (xs : List ℕ) → IsDistinct xs → (k : ℕ) → passing (λ x. x == k) xs ≤ 1
distinct-once [] h k = omega arith
distinct-once (x ∷ xs) h k = at_test (x == k) refl (distinct-once xs h.1 k) where
  none : (ys : List ℕ) → Each (Apart k) ys → passing (λ x. x == k) ys ≡ 0
  none [] g = refl
  none (y ∷ ys) g = ap (λ b. cond b 1 0 + passing (λ x. x == k) ys) (unlike y k g.0) ∙ omega (arith, none ys g.1)

  at_test : (b : Bool) → (x == k) ≡ b → passing (λ x. x == k) xs ≤ 1 → cond b 1 0 + passing (λ x. x == k) xs ≤ 1
  at_test true is rest =
      let same = same_number x k is in
      omega (arith, none xs (each-all (Apart x) (Apart k) (λ y apart e. apart (e ∙ sym same)) xs h.0))
  at_test false is rest = omega (arith, rest)
