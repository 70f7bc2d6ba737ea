-- The looks of a scan, counted entry by entry: no two visited buckets are the same, so none is looked at twice.
use Rattle.std.proofs.Common.{◌≡◌, ℕ, zero, suc, ◌+◌, ◌-◌, ◌%◌, ◌<◌, ◌≤◌, Bool, true, false, cond, ◌||◌, ◌==◌, List, [], ◌∷◌, refl, ap, sym, ◌∙◌, arith, length, max, length-append}
use Rattle.std.specs.List.{filter, flat_map, range_with_len, list_any}
use Rattle.std.proofs.Math.Nat.{add-mod-mod}
use Rattle.std.proofs.lemmas.List.Sums.{length-filter, count_by-le-length}
use Rattle.co_sbt.specs.Time.{hash}
use Rattle.co_object.proofs.Numbers.{same_number, same_itself}
use Rattle.co_queue.specs.declared.timed.Timed.{Timed}
use Rattle.co_queue.specs.Timers.{bucket_of, in_bucket}
use Rattle.co_queue.proofs.Lists.{same_test}
use Rattle.co_queue.proofs.Order.{unlike}
use Rattle.co_bucket.specs.Visits.{visits}
use Rattle.co_bucket.specs.Laws.{is_visited, stands_visited, LooksAreAtVisitedBuckets, ATurnLooksAtAll, LooksAtMostAsAList}
use Rattle.co_bucket.proofs.Scan.{bucket_on, bucket-once, bucket-some}

-- how many pass the test
abbrev many : {X : Type 0} → (X → Bool) → List X → ℕ
many p xs = length (filter p xs)

-- what passes neither test twice
many-either : {X : Type 0} (p q : X → Bool) → ((x : X) → p x ≡ true → q x ≡ false) → (xs : List X) → many (λ x. p x || q x) xs ≡ many p xs + many q xs
many-either p q apart [] = refl
many-either {X = X} p q apart (x ∷ xs) = at_test (p x) (q x) refl refl (many-either p q apart xs) where
  at_test : (a b : Bool) → p x ≡ a → q x ≡ b → many (λ x. p x || q x) xs ≡ many p xs + many q xs → many (λ x. p x || q x) (x ∷ xs) ≡ many p (x ∷ xs) + many q (x ∷ xs)
  at_test true true is it rest = let no = apart x is in cc
  at_test true false is it rest = rw (is, it) (omega (arith, rest))
  at_test false true is it rest = rw (is, it) (omega (arith, rest))
  at_test false false is it rest = rw (is, it) rest

many-none : {X : Type 0} (xs : List X) → many (λ (x : X). false) xs ≡ 0
many-none [] = refl
many-none (x ∷ xs) = many-none xs

many-all : {X : Type 0} (p : X → Bool) (xs : List X) → ((x : X) → p x ≡ true) → many p xs ≡ length xs
many-all p [] h = refl
many-all p (x ∷ xs) h = rw (h x) (omega (arith, many-all p xs h))

many-same : {X : Type 0} (p q : X → Bool) (xs : List X) → ((x : X) → p x ≡ q x) → many p xs ≡ many q xs
many-same p q [] h = refl
many-same p q (x ∷ xs) h = rw (h x) (at_test (q x) (many-same p q xs h)) where
  at_test : (b : Bool) → many p xs ≡ many q xs → length (cond b (x ∷ filter p xs) (filter p xs)) ≡ length (cond b (x ∷ filter q xs) (filter q xs))
  at_test true rest = omega (arith, rest)
  at_test false rest = rest

-- a test of a range, and the number that passes it
any-here : (p : ℕ → Bool) (a n k : ℕ) → a ≤ k → k < a + n → p k ≡ true → list_any p (range_with_len a n) ≡ true
any-here p a zero k low high h = absurd (omega arith)
any-here p a (suc n) k low high h = at_test (a == k) refl (λ low' high'. any-here p (a + 1) n k low' high' h) where
  or_true : (b : Bool) → (b || true) ≡ true
  or_true true = refl
  or_true false = refl

  at_test : (b : Bool) → (a == k) ≡ b → (a + 1 ≤ k → k < (a + 1) + n → list_any p (range_with_len (a + 1) n) ≡ true) → (p a || list_any p (range_with_len (a + 1) n)) ≡ true
  at_test true is rest = ap (λ b. b || list_any p (range_with_len (a + 1) n)) (ap p (same_number a k is) ∙ h)
  at_test false is rest =
      let other : a ≡ k → ⊥ = (λ g. let same = same_itself a k g in cc) in
      ap (λ b. p a || b) (rest (omega (arith, other)) (omega arith)) ∙ or_true (p a)

some-here : (p : ℕ → Bool) (a n : ℕ) → list_any p (range_with_len a n) ≡ true → (k : ℕ) × (a ≤ k) × (k < a + n) × (p k ≡ true)
some-here p a zero h = absurd cc
some-here p a (suc n) h = at_test (p a) refl h (λ g. some-here p (a + 1) n g) where
  at_test : (b : Bool) → p a ≡ b → (p a || list_any p (range_with_len (a + 1) n)) ≡ true → (list_any p (range_with_len (a + 1) n) ≡ true → (k : ℕ) × (a + 1 ≤ k) × (k < (a + 1) + n) × (p k ≡ true)) → (k : ℕ) × (a ≤ k) × (k < a + suc n) × (p k ≡ true)
  at_test true is g rest = (a, omega arith, omega arith, is)
  at_test false is g rest =
      let there = rest (sym (ap (λ b. b || list_any p (range_with_len (a + 1) n)) is) ∙ g) in
      (there.0, (let low = there.1 in omega arith), (let high = there.2 in omega arith), there.3)

none-here : (p : ℕ → Bool) (a n : ℕ) → ((k : ℕ) → a ≤ k → k < a + n → p k ≡ false) → list_any p (range_with_len a n) ≡ false
none-here p a zero h = refl
none-here p a (suc n) h = ap (λ b. b || list_any p (range_with_len (a + 1) n)) (h a (omega arith) (omega arith)) ∙ none-here p (a + 1) n (λ k low high. h k (omega arith) (omega arith))

module _ (m last : ℕ) (some : 0 < m) where
  -- the bucket is one of the n from the a-th visited one on
  abbrev among : (a n b : ℕ) → Bool
  among a n b = list_any (λ d. b == bucket_on m last some d) (range_with_len a n)

  once : (a n b : ℕ) → a + suc n ≤ m → (b == bucket_on m last some a) ≡ true → among (a + 1) n b ≡ false
  once a n b room is =
      none-here (λ d. b == bucket_on m last some d) (a + 1) n
      (λ d low high. unlike b (bucket_on m last some d)
      (λ same. absurd (let e = bucket-once m last some d a (omega arith) (omega arith) (sym same ∙ same_number b (bucket_on m last some a) is) in omega (arith, e))))

  looked-among : (a n : ℕ) (entries : List Timed) → a + n ≤ m →
      length (flat_map (λ d. in_bucket m (bucket_on m last some d) entries) (range_with_len a n)) ≡ many (λ e. among a n (bucket_of m e.t)) entries
  looked-among a zero entries room = sym (many-none entries)
  looked-among a (suc n) entries room =
      let rest = looked-among (a + 1) n entries (omega arith) in
      let both = many-either (λ e. bucket_of m e.t == bucket_on m last some a) (λ e. among (a + 1) n (bucket_of m e.t)) (λ e is. once a n (bucket_of m e.t) room is) entries in
      let parts = length-append (in_bucket m (bucket_on m last some a) entries) (flat_map (λ d. in_bucket m (bucket_on m last some d) entries) (range_with_len (a + 1) n)) in
      omega (arith, rest, both, parts)

  -- the buckets of the visits are those of the hashes in between
  visited-are : (time b : ℕ) → among 0 (visits m last time) b ≡ is_visited m last time b
  visited-are time b = same_test _ _ there back where
    there : among 0 (visits m last time) b ≡ true → is_visited m last time b ≡ true
    there h =
        let d = some-here (λ d. b == bucket_on m last some d) 0 (visits m last time) h in
        let high = d.2 in
        any-here (λ h. h % m == b) (hash last) (hash time - hash last + 1) (hash last + d.0) (omega arith) (omega arith)
        (same_itself ((hash last + d.0) % m) b (sym (same_number b (bucket_on m last some d.0) d.3)))

    back : is_visited m last time b ≡ true → among 0 (visits m last time) b ≡ true
    back h =
        let k = some-here (λ h. h % m == b) (hash last) (hash time - hash last + 1) h in
        let d = k.0 - hash last in
        let low = k.1 in
        let high = k.2 in
        let is : (hash last + d) % m ≡ b = ap (λ x. x % m) (let e : hash last + (k.0 - hash last) ≡ k.0 = omega arith in e) ∙ same_number (k.0 % m) b k.3 in
        let below : d % m < visits m last time = omega arith in
        any-here (λ d. b == bucket_on m last some d) 0 (visits m last time) (d % m) (omega arith) (omega arith)
        (same_itself b ((hash last + d % m) % m) (sym is ∙ sym (add-mod-mod (hash last) d m)))

pub looked : LooksAreAtVisitedBuckets
looked s now some =
    looked-among s.buckets s.last some 0 (visits s.buckets s.last (max s.last now)) s.content (omega arith)
    ∙ many-same (λ e. among s.buckets s.last some 0 (visits s.buckets s.last (max s.last now)) (bucket_of s.buckets e.t)) (λ e. stands_visited s now e.t) s.content
    (λ e. visited-are s.buckets s.last some (max s.last now) (bucket_of s.buckets e.t))
    ∙ length-filter (λ e. stands_visited s now e.t) s.content

pub turn_all : ATurnLooksAtAll
turn_all s now some turned =
    looked s now some
    ∙ sym (length-filter (λ e. stands_visited s now e.t) s.content)
    ∙ many-all (λ e. stands_visited s now e.t) s.content
    (λ e. let b = bucket_of s.buckets e.t in let d = bucket-some s.buckets s.last some b (omega arith) in
    let high = d.1 in
    any-here (λ h. h % s.buckets == b) (hash s.last) (hash (max s.last now) - hash s.last + 1) (hash s.last + d.0) (omega arith) (omega arith) (same_itself ((hash s.last + d.0) % s.buckets) b d.2))

pub at_most_all : LooksAtMostAsAList
at_most_all s now some =
    let all = looked s now some in
    omega (arith, all, count_by-le-length (λ e. stands_visited s now e.t) s.content)
