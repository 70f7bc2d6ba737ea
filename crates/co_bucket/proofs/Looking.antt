-- The walk through one bucket for its first time, and the walk from bucket to bucket for that of all.
use Rattle.std.proofs.Common.{◌≡◌, ◌⊎◌, inl, inr, ℕ, zero, suc, ◌+◌, ◌-◌, ◌%◌, ◌<◌, ◌≤◌, Bool, true, false, cond, ◌||◌, ◌==◌, List, [], ◌∷◌, ◌++◌, refl, ap, sym, subst, ◌∙◌, arith, length, append_assoc, append-nil, length-append, nat_le, nat_lt, min, slice_index, get_or}
use Rattle.std.specs.List.{list_any, flat_map, range_with_len}
use Rattle.std.specs.declared.option.Option.{Option}
use Rattle.std.specs.declared.option.Option.TheVariants.{Some, None}
use Rattle.std.proofs.Math.Nat.{mod-eq_of_lt}
use Rattle.std.proofs.lemmas.Bool.Decides.{nat_tests}
use Rattle.std.proofs.lemmas.List.Folds.{list_any-append}
use Rattle.co_sbt.specs.Time.{hash}
use Rattle.co_object.proofs.Each.{Each, each-all}
use Rattle.co_object.proofs.Numbers.{same_number, same_itself}
use Rattle.co_queue.specs.Timers.{bucket_of}
use Rattle.co_queue.proofs.Turns.{at-then_on, hash-later}
use Rattle.co_bucket.specs.declared.rings.Rings.{Rings}
use Rattle.co_bucket.specs.Rings.{AreLinked, first_of, list_of}
use Rattle.co_bucket.specs.Earliest.{earlier, least, within, IsFirst, IsFirstAt}
use Rattle.co_bucket.specs.Wheel.{AreTimely}
use Rattle.co_bucket.proofs.Elements.{all-of}
use Rattle.co_bucket.proofs.Linked.{rings-placed}
use Rattle.co_bucket.proofs.Listed.{IsTimely, timely-each}
use Rattle.co_bucket.proofs.Ops.{none-first, some-first}
use Rattle.co_bucket.proofs.Ranges.{range-more}
use Rattle.co_bucket.proofs.Scan.{bucket_on, bucket-below, bucket-some, flat_map-append}
use Rattle.co_bucket.proofs.Sweep.{list-few, middle}

-- ---- one bucket

pub record Looking (r : Rings) (t : List ℕ) (b : ℕ) (initial now : Option ℕ) (at' : Option ℕ) (n : ℕ) : Type 0 where
  pub done : List ℕ
  pub rest : List ℕ
  pub parts : list_of r b ≡ done ++ rest
  pub long : length done ≡ n
  pub at-is : at' ≡ first_of rest
  pub so_far : now ≡ least t initial done

least-append : (t : List ℕ) (o : Option ℕ) (xs ys : List ℕ) → least t o (xs ++ ys) ≡ least t (least t o xs) ys
least-append t o [] ys = refl
least-append t o (x ∷ xs) ys = least-append t (Some (earlier o (slice_index t x))) xs ys

module _ {r : Rings} {t : List ℕ} {b : ℕ} {initial now at' : Option ℕ} {n : ℕ} (linked : AreLinked r) (in' : b < r.count) (h : Looking r t b initial now at' n) where
  whole : h.rest ≡ [] → now ≡ least t initial (list_of r b)
  whole none = h.so_far ∙ ap (least t initial) (sym (append-nil h.done) ∙ ap (λ xs. h.done ++ xs) (sym none) ∙ sym h.parts)

  -- at the end of the list
  pub at-end : at' ≡ None → now ≡ least t initial (list_of r b)
  at-end is = whole (none-first h.rest (sym h.at-is ∙ is))

  no-more : (xs : List ℕ) → length xs ≤ 0 → xs ≡ []
  no-more [] h = refl
  no-more (x ∷ xs) h = absurd (omega (arith, h))

  -- after as many as there may be
  pub at-size : n ≡ r.size → now ≡ least t initial (list_of r b)
  at-size is = whole (no-more h.rest (omega (arith, is, h.long, ap length h.parts, length-append h.done h.rest, list-few r b linked in')))

  module _ (x : ℕ) (going : at' ≡ Some x) where
    opened : (rest : List ℕ) × (h.rest ≡ x ∷ rest)
    opened = some-first h.rest x (sym h.at-is ∙ going)

    here : list_of r b ≡ h.done ++ x ∷ opened.0
    here = h.parts ∙ ap (λ xs. h.done ++ xs) opened.1

    pub x-below : x < r.size
    x-below = (middle (λ x. (x < r.size) × (get_or r.place.items x 0 ≡ b)) h.done x opened.0 (subst (Each (λ x. (x < r.size) × (get_or r.place.items x 0 ≡ b))) here (rings-placed linked b in'))).0

    pub looked : (time : ℕ) → time ≡ slice_index t x → (after : Option ℕ) → ((k : ℕ) → k < r.count → (front rest : List ℕ) → list_of r k ≡ front ++ x ∷ rest → after ≡ first_of rest) →
        Looking r t b initial (Some (earlier now time)) after (n + 1)
    looked time is after follows = record {
      done = h.done ++ x ∷ [];
      rest = opened.0;
      parts = here ∙ sym (append_assoc h.done (x ∷ []) opened.0);
      long = omega (arith, length-append h.done (x ∷ []), h.long);
      at-is = follows b in' h.done opened.0 here;
      so_far = ap (λ u. Some (earlier now u)) is ∙ ap (λ o. Some (earlier o (slice_index t x))) h.so_far ∙ sym (least-append t initial h.done (x ∷ []));
    }

-- ---- what the first time of a list is

least-none : (t : List ℕ) (o : Option ℕ) (xs : List ℕ) → least t o xs ≡ None → (o ≡ None) × (xs ≡ [])
least-none t o [] h = (h, refl)
least-none t o (x ∷ xs) h = let r = (least-none t (Some (earlier o (slice_index t x))) xs h).0 in cc

abbrev IsBelow : ℕ → Option ℕ → Type 0
IsBelow v None = Unit {0}
IsBelow v (Some u) = v ≤ u

abbrev hits : List ℕ → ℕ → ℕ → Bool
hits t v x = slice_index t x == v

pub within-some : (o : Option ℕ) (h t : ℕ) → within o h ≡ Some t → (o ≡ Some t) × (hash t ≤ h)
within-some None h t is = cc
within-some (Some u) h t is = at_test (nat_le (hash u) h) refl where
  low : nat_le (hash u) h ≡ true → hash u ≤ h
  low g = grind (arith, nat_tests)

  at_test : (b : Bool) → nat_le (hash u) h ≡ b → (Some u ≡ Some t) × (hash t ≤ h)
  at_test true g =
      let same : Some u ≡ Some t = sym (ap (λ b. cond b (Some u) None) g) ∙ is in
      (same, subst (λ x. hash x ≤ h) (some-inner u t same) (low g)) where
        some-inner : (u v : ℕ) → Some u ≡ Some v → u ≡ v
        some-inner u v h = cc
  at_test false g = let no = sym (ap (λ b. cond b (Some u) None) g) ∙ is in cc

some-inner : (u v : ℕ) → Some u ≡ Some v → u ≡ v
some-inner u v h = cc

least-some : (t : List ℕ) (o : Option ℕ) (xs : List ℕ) (v : ℕ) → least t o xs ≡ Some v → Each (λ x. v ≤ slice_index t x) xs × IsBelow v o × ((o ≡ Some v) ⊎ (list_any (hits t v) xs ≡ true))
least-some t None [] v h = (tt, tt, inl h)
least-some t (Some u) [] v h = (tt, let e = some-inner u v h in omega (arith, e), inl h)
least-some t o (x ∷ xs) v h = by_first o (least-some t (Some (earlier o (slice_index t x))) xs v h) where
  u : ℕ
  u = slice_index t x

  or_left : (b c : Bool) → b ≡ true → (b || c) ≡ true
  or_left b c e = ap (λ b. b || c) e

  or_right : (b c : Bool) → c ≡ true → (b || c) ≡ true
  or_right true c e = refl
  or_right false c e = e

  by_first : (o : Option ℕ) → Each (λ x. v ≤ slice_index t x) xs × IsBelow v (Some (earlier o u)) × ((Some (earlier o u) ≡ Some v) ⊎ (list_any (hits t v) xs ≡ true)) →
      Each (λ x. v ≤ slice_index t x) (x ∷ xs) × IsBelow v o × ((o ≡ Some v) ⊎ ((hits t v x || list_any (hits t v) xs) ≡ true))
  by_first None (each, below, inl is) = ((below, each), tt, inr (or_left (hits t v x) (list_any (hits t v) xs) (same_itself u v (some-inner u v is))))
  by_first None (each, below, inr found) = ((below, each), tt, inr (or_right (hits t v x) (list_any (hits t v) xs) found))
  by_first (Some w) (each, below, inl is) = (
    (let b : v ≤ min w u = below in omega (arith, b), each),
    (let b : v ≤ min w u = below in omega (arith, b)),
    at_test (w == v) refl,
  ) where
    at_test : (c : Bool) → (w == v) ≡ c → (Some w ≡ Some v) ⊎ ((hits t v x || list_any (hits t v) xs) ≡ true)
    at_test true e = inl (ap (λ k. Some k) (same_number w v e))
    at_test false e =
        let other : w ≡ v → ⊥ = (λ g. let same = same_itself w v g in cc) in
        let least_is : min w u ≡ v = some-inner (min w u) v is in
        inr (or_left (hits t v x) (list_any (hits t v) xs) (same_itself u v (omega (arith, least_is, other))))
  by_first (Some w) (each, below, inr found) = (
    (let b : v ≤ min w u = below in omega (arith, b), each),
    (let b : v ≤ min w u = below in omega (arith, b)),
    inr (or_right (hits t v x) (list_any (hits t v) xs) found),
  )

-- ---- lists one after another

each-parts : {X : Type 0} (P : X → Type 0) (xs ys : List X) → Each P (xs ++ ys) → Each P xs × Each P ys
each-parts P [] ys h = (tt, h)
each-parts P (x ∷ xs) ys h = let r = each-parts P xs ys h.1 in ((h.0, r.0), r.1)

each-flat : (P : ℕ → Type 0) (f : ℕ → List ℕ) (a c : ℕ) → Each P (flat_map f (range_with_len a c)) → (k : ℕ) → a ≤ k → k < a + c → Each P (f k)
each-flat P f a zero h k low high = absurd (omega arith)
each-flat P f a (suc c) h k low high =
    let both = each-parts P (f a) (flat_map f (range_with_len (a + 1) c)) h in
    at_test (a == k) refl both.0 (λ above. each-flat P f (a + 1) c both.1 k above (omega arith)) where
      at_test : (b : Bool) → (a == k) ≡ b → Each P (f a) → (a + 1 ≤ k → Each P (f k)) → Each P (f k)
      at_test true is here rest = subst (λ j. Each P (f j)) (same_number a k is) here
      at_test false is here rest =
          let other : a ≡ k → ⊥ = (λ e. let same = same_itself a k e in cc) in
          rest (omega (arith, other))

any-flat : (p : ℕ → Bool) (f : ℕ → List ℕ) (a c : ℕ) → list_any p (flat_map f (range_with_len a c)) ≡ true → (k : ℕ) × (a ≤ k) × (k < a + c) × (list_any p (f k) ≡ true)
any-flat p f a zero h = absurd (none h) where
  none : false ≡ true → ⊥
  none h = cc
any-flat p f a (suc c) h = at_test (list_any p (f a)) refl (λ there. any-flat p f (a + 1) c there) where
  at_test : (b : Bool) → list_any p (f a) ≡ b → (list_any p (flat_map f (range_with_len (a + 1) c)) ≡ true → (k : ℕ) × (a + 1 ≤ k) × (k < (a + 1) + c) × (list_any p (f k) ≡ true)) → (k : ℕ) × (a ≤ k) × (k < a + suc c) × (list_any p (f k) ≡ true)
  at_test true is rest = (a, omega arith, omega arith, is)
  at_test false is rest =
      let r = rest (sym (ap (λ b. b || list_any p (flat_map f (range_with_len (a + 1) c))) is) ∙ sym (list_any-append p (f a) (flat_map f (range_with_len (a + 1) c))) ∙ h) in
      (r.0, omega (arith, r.1), omega (arith, r.2), r.3)

-- ---- all buckets

module _ (r : Rings) (t : List ℕ) (m last : ℕ) (some : 0 < m) where
  abbrev on : ℕ → ℕ
  on d = bucket_on m last some d

  -- what stands in so many buckets, from that of the last scan on
  abbrev pub seen : ℕ → List ℕ
  seen d = flat_map (λ k. list_of r (on k)) (range_with_len 0 d)

  pub seen-more : (d : ℕ) → seen (d + 1) ≡ seen d ++ list_of r (on d)
  seen-more d =
      ap (flat_map (λ k. list_of r (on k))) (range-more 0 d) ∙ flat_map-append (λ k. list_of r (on k)) (range_with_len 0 d) ((0 + d) ∷ [])
      ∙ ap (λ xs. seen d ++ xs) (append-nil (list_of r (on (0 + d))) ∙ ap (λ e. list_of r (on e)) zero-on) where
        zero-on : 0 + d ≡ d
        zero-on = omega arith

  pub first-more : (d b : ℕ) (now next : Option ℕ) → b ≡ on d → now ≡ least t None (seen d) → next ≡ least t now (list_of r b) → next ≡ least t None (seen (d + 1))
  first-more d b now next b-is now-is next-is =
      next-is ∙ ap (λ o. least t o (list_of r b)) now-is ∙ ap (λ k. least t (least t None (seen d)) (list_of r k)) b-is
      ∙ sym (least-append t None (seen d) (list_of r (on d))) ∙ ap (least t None) (sym (seen-more d))

  there : (d v : ℕ) → d ≤ m → list_any (hits t v) (seen d) ≡ true → (k : ℕ) × (k < m) × (list_any (hits t v) (list_of r k) ≡ true)
  there d v few h =
      let f = any-flat (hits t v) (λ k. list_of r (on k)) 0 d h in
      (on f.0, bucket-below m last some f.0, f.3)

  hit-of : (d v : ℕ) → least t None (seen d) ≡ Some v → list_any (hits t v) (seen d) ≡ true
  hit-of d v is = by_case (least-some t None (seen d) v is).2 where
    by_case : (None ≡ Some v) ⊎ (list_any (hits t v) (seen d) ≡ true) → list_any (hits t v) (seen d) ≡ true
    by_case (inl h) = cc
    by_case (inr h) = h

  -- when all have been seen
  pub first-all : (o : Option ℕ) → least t None (seen m) ≡ o → IsFirst m t (list_of r) o
  first-all None is = λ k below.
      let d = bucket-some m last some k below in
      let none = (least-none t None (seen m) is).1 in
      nothing (list_of r k) (subst (λ j. Each (λ x. ⊥) (list_of r j)) d.2 (each-flat (λ x. ⊥) (λ k. list_of r (on k)) 0 m (subst (Each (λ x. ⊥)) (sym none) tt) d.0 (omega arith) (let l = d.1 in omega (arith, l)))) where
        nothing : (xs : List ℕ) → Each (λ x. ⊥) xs → xs ≡ []
        nothing [] h = refl
        nothing (x ∷ xs) h = absurd h.0
  first-all (Some v) is =
      let each = (least-some t None (seen m) v is).0 in
      let h = there m v (omega arith) (hit-of m v is) in
      record {
        before = λ k below. all-of (λ x. v ≤ slice_index t x) (list_of r k)
            (let d = bucket-some m last some k below in subst (λ j. Each (λ x. v ≤ slice_index t x) (list_of r j)) d.2 (each-flat (λ x. v ≤ slice_index t x) (λ k. list_of r (on k)) 0 m each d.0 (omega arith) (let l = d.1 in omega (arith, l))));
        bucket = h.0;
        below = h.1;
        there = h.2;
      }

  module _ (timely : AreTimely m t last (list_of r)) (d v : ℕ) (in' : d < m) (near : hash v ≤ hash last + d) where
    -- what stands further on is later
    later : (e u : ℕ) → d < e → e < m → bucket_of m u ≡ on e → last ≤ u → v ≤ u
    later e u beyond below is ahead = at_test (nat_lt u v) refl where
      is_less : nat_lt u v ≡ true → u ≤ v
      is_less g = grind (arith, nat_tests)

      not_less : nat_lt u v ≡ false → v ≤ u
      not_less g = grind (arith, nat_tests)

      at_test : (b : Bool) → nat_lt u v ≡ b → v ≤ u
      at_test false g = not_less g
      at_test true g =
          let h1 = hash-later u v (is_less g) in
          let h2 = hash-later last u ahead in
          let split : hash last + (hash u - hash last) ≡ hash u = omega arith in
          let small : hash u - hash last < m = omega arith in
          let same = at-then_on m (hash last) (hash u - hash last) e below (ap (λ x. x % m) split ∙ is) in
          let whole = mod-eq_of_lt small in
          absurd (omega (arith, same, whole))

    -- when the first time is no later than the last bucket seen
    pub first-near : least t None (seen (d + 1)) ≡ Some v → IsFirstAt m t (list_of r) v
    first-near is =
        let h = there (d + 1) v (omega arith) (hit-of (d + 1) v is) in
        record {
          before = λ k below. all-of (λ x. v ≤ slice_index t x) (list_of r k) (at-bucket k below);
          bucket = h.0;
          below = h.1;
          there = h.2;
        } where
          each : Each (λ x. v ≤ slice_index t x) (seen (d + 1))
          each = (least-some t None (seen (d + 1)) v is).0

          at-bucket : (k : ℕ) → k < m → Each (λ x. v ≤ slice_index t x) (list_of r k)
          at-bucket k below =
              let e = bucket-some m last some k below in
              subst (λ j. Each (λ x. v ≤ slice_index t x) (list_of r j)) e.2 (at_test e.0 e.1 (nat_lt d e.0) refl) where
                at_test : (e : ℕ) → e < m → (b : Bool) → nat_lt d e ≡ b → Each (λ x. v ≤ slice_index t x) (list_of r (on e))
                at_test e low false g =
                    each-flat (λ x. v ≤ slice_index t x) (λ k. list_of r (on k)) 0 (d + 1) each e (omega arith) (let n : e ≤ d = grind (arith, nat_tests) in omega (arith, n))
                at_test e low true g =
                    each-all (IsTimely m t last (on e)) (λ x. v ≤ slice_index t x) (λ x h. later e (slice_index t x) (let n : d < e = grind (arith, nat_tests) in n) low h.0 h.1) (list_of r (on e))
                    (timely-each m t last (list_of r) timely (on e) (bucket-below m last some e))
