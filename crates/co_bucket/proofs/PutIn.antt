-- What becomes of the lists when a callout is linked into one of them, at its head or at its end.
-- The list that is written to by the lemmas on paths, and every other because none of its numbers is written to.
use Rattle.std.proofs.Common.{◌≡◌, ℕ, ◌+◌, ◌<◌, ◌≤◌, Bool, true, false, cond, ◌||◌, ◌==◌, List, [], ◌∷◌, ◌++◌, refl, ap, sym, subst, ◌∙◌, arith, get_or, set}
use Rattle.std.specs.List.{list_any}
use Rattle.std.proofs.lemmas.List.{get_or-set_other, get_or-set_same, length-set}
use Rattle.std.proofs.lemmas.List.Folds.{list_any-append}
use Rattle.co_object.proofs.Each.{Each, each-append, each-all}
use Rattle.co_object.proofs.Numbers.{same_number, same_itself}
use Rattle.co_queue.proofs.Order.{unlike}
use Rattle.co_bucket.specs.Links.{IsPath}
use Rattle.co_bucket.specs.Rings.{IsRings}
use Rattle.co_bucket.proofs.Paths.{Apart, Keeps, first-of, last-of, link-first, link-last}
use Rattle.co_bucket.proofs.Elements.{all-of}
use Rattle.co_bucket.proofs.Linked.{rings-placed, heads-apart, rings-distinct, Outside, outside-head, outside-number, outside-each, first-node, last-node, other-ring}

module _ {size count : ℕ} {next prev place : List ℕ} {lists : ℕ → List ℕ} (rings : IsRings size count next prev place lists) where
  abbrev nx : ℕ → ℕ
  nx x = get_or next x 0

  abbrev pv : ℕ → ℕ
  pv x = get_or prev x 0

  module _ (i j : ℕ) (small : i < size) (in-j : j < count) (free : count ≤ get_or place i 0) where
    outside-free : (k : ℕ) → k < count → Outside rings k i
    outside-free k in' = outside-number rings i k in' small (λ e. absurd (omega (arith, e, free)))

    module _ (before after : ℕ) (before-node : before < size + count) (after-node : after < size + count) (before-apart : Apart i before) (after-apart : Apart i after) where
      abbrev next-in : List ℕ
      next-in = set (set next before i) i after

      abbrev prev-in : List ℕ
      prev-in = set (set prev after i) i before

      next-before : get_or next-in before 0 ≡ i
      next-before = get_or-set_other (set next before i) i before after 0 before-apart ∙ get_or-set_same next before i 0 (let l = rings.next_long in omega (arith, l))

      next-i : get_or next-in i 0 ≡ after
      next-i = get_or-set_same (set next before i) i after 0 (let l = rings.next_long in omega (arith, l, length-set next before i))

      prev-after : get_or prev-in after 0 ≡ i
      prev-after = get_or-set_other (set prev after i) i after before 0 after-apart ∙ get_or-set_same prev after i 0 (let l = rings.prev_long in omega (arith, l))

      prev-i : get_or prev-in i 0 ≡ before
      prev-i = get_or-set_same (set prev after i) i before 0 (let l = rings.prev_long in omega (arith, l, length-set prev after i))

      next-keeps : Keeps nx (λ x. get_or next-in x 0) before i
      next-keeps x b e = get_or-set_other (set next before i) i x after 0 e ∙ get_or-set_other next before x i 0 b

      prev-keeps : Keeps pv (λ x. get_or prev-in x 0) after i
      prev-keeps x a e = get_or-set_other (set prev after i) i x before 0 e ∙ get_or-set_other prev after x i 0 a

      rings-in : (lists' : ℕ → List ℕ) → ((k : ℕ) → Apart j k → lists' k ≡ lists k) → IsPath (λ x. get_or next-in x 0) (λ x. get_or prev-in x 0) (size + j) (lists' j) (size + j) →
          ((k : ℕ) → k < count → Apart k j → Outside rings k before) → ((k : ℕ) → k < count → Apart k j → Outside rings k after) →
          ((Q : ℕ → Type 0) → Each Q (lists j) → Q i → Each Q (lists' j)) →
          ((x : ℕ) → list_any (λ y. y == x) (lists j) ≡ true → list_any (λ y. y == x) (lists' j) ≡ true) → list_any (λ y. y == i) (lists' j) ≡ true →
          IsRings size count next-in prev-in (set place i j) lists'
      rings-in lists' others path-j ob oa each more there-i = record {
        path = λ k in'. path-k k in' (k == j) refl;
        placed = λ k in'. all-of (λ x. (x < size) × (get_or (set place i j) x 0 ≡ k)) (lists' k) (placed-k k in' (k == j) refl);
        there = λ x below in'. there-x x below in' (x == i) refl;
        next_long = length-set (set next before i) i after ∙ length-set next before i ∙ rings.next_long;
        prev_long = length-set (set prev after i) i before ∙ length-set prev after i ∙ rings.prev_long;
        place_long = length-set place i j ∙ rings.place_long;
      } where
        path-k : (k : ℕ) → k < count → (b : Bool) → (k == j) ≡ b → IsPath (λ x. get_or next-in x 0) (λ x. get_or prev-in x 0) (size + k) (lists' k) (size + k)
        path-k k in' true is = subst (λ (k : ℕ). IsPath (λ x. get_or next-in x 0) (λ x. get_or prev-in x 0) (size + k) (lists' k) (size + k)) (sym (same_number k j is)) path-j
        path-k k in' false is =
            let other : Apart j k = (λ e. let same = same_itself k j e in cc) in
            subst (λ (xs : List ℕ). IsPath (λ x. get_or next-in x 0) (λ x. get_or prev-in x 0) (size + k) xs (size + k)) (sym (others k other))
            (other-ring rings (λ x. get_or next-in x 0) (λ x. get_or prev-in x 0) before i after i k in' next-keeps prev-keeps (ob k in' (λ e. other (sym e))) (outside-free k in') (oa k in' (λ e. other (sym e))) (outside-free k in'))

        placed-old : (k : ℕ) → k < count → Each (λ x. (x < size) × (get_or (set place i j) x 0 ≡ k)) (lists k)
        placed-old k in' = each-all (λ x. (x < size) × (get_or place x 0 ≡ k)) (λ x. (x < size) × (get_or (set place i j) x 0 ≡ k))
            (λ x h. (h.0, get_or-set_other place i x j 0 (λ e. let p = ap (λ z. get_or place z 0) e in let g = h.1 in absurd (omega (arith, p, free, g))) ∙ h.1)) (lists k) (rings-placed rings k in')

        placed-k : (k : ℕ) → k < count → (b : Bool) → (k == j) ≡ b → Each (λ x. (x < size) × (get_or (set place i j) x 0 ≡ k)) (lists' k)
        placed-k k in' true is =
            subst (λ (k : ℕ). Each (λ x. (x < size) × (get_or (set place i j) x 0 ≡ k)) (lists' k)) (sym (same_number k j is))
            (each (λ x. (x < size) × (get_or (set place i j) x 0 ≡ j)) (placed-old j in-j) (small, get_or-set_same place i j 0 (let l = rings.place_long in omega (arith, l))))
        placed-k k in' false is = subst (Each (λ x. (x < size) × (get_or (set place i j) x 0 ≡ k))) (sym (others k (λ e. let same = same_itself k j e in cc))) (placed-old k in')

        there-k : (x k : ℕ) → list_any (λ y. y == x) (lists k) ≡ true → (b : Bool) → (k == j) ≡ b → list_any (λ y. y == x) (lists' k) ≡ true
        there-k x k h true is =
            let here = same_number k j is in
            subst (λ (k : ℕ). list_any (λ y. y == x) (lists' k) ≡ true) (sym here) (more x (subst (λ (k : ℕ). list_any (λ y. y == x) (lists k) ≡ true) here h))
        there-k x k h false is = ap (list_any (λ y. y == x)) (others k (λ e. let same = same_itself k j e in cc)) ∙ h

        there-x : (x : ℕ) → x < size → get_or (set place i j) x 0 < count → (b : Bool) → (x == i) ≡ b → list_any (λ y. y == x) (lists' (get_or (set place i j) x 0)) ≡ true
        there-x x below in' true is =
            let same = same_number x i is in
            let at' : get_or (set place i j) x 0 ≡ j = ap (λ z. get_or (set place i j) z 0) same ∙ get_or-set_same place i j 0 (let l = rings.place_long in omega (arith, l)) in
            ap (λ k. list_any (λ y. y == x) (lists' k)) at' ∙ ap (λ z. list_any (λ y. y == z) (lists' j)) same ∙ there-i
        there-x x below in' false is =
            let same = get_or-set_other place i x j 0 (λ e. let yes' = same_itself x i e in cc) in
            ap (λ k. list_any (λ y. y == x) (lists' k)) same ∙ there-k x (get_or place x 0) (rings.there x below (omega (arith, same))) (get_or place x 0 == j) refl

    -- at the head of list j
    abbrev first : ℕ
    first = nx (size + j)

    abbrev pub lists-first : ℕ → List ℕ
    lists-first k = cond (k == j) (i ∷ lists k) (lists k)

    first-here : lists-first j ≡ i ∷ lists j
    first-here = ap (λ b. cond b (i ∷ lists j) (lists j)) (same_itself j j refl)

    near-first : (Q : ℕ → Type 0) → Q (size + j) → Each Q (lists j) → Q first
    near-first Q head each = first-of nx pv Q (size + j) (lists j) (size + j) (rings.path j in-j) each head

    i-head : Apart i (size + j)
    i-head e = absurd (omega (arith, e))

    pub put-first : IsRings size count (set (set next (size + j) i) i first) (set (set prev first i) i (size + j)) (set place i j) lists-first
    put-first =
        let apart-first : Apart i first = near-first (Apart i) i-head (outside-free j in-j).1 in
        let node = first-node rings j in-j in
        rings-in (size + j) first (omega arith) node i-head apart-first lists-first
        (λ k other. ap (λ b. cond b (i ∷ lists k) (lists k)) (unlike k j other))
        (subst (λ (xs : List ℕ). IsPath (λ x. get_or (set (set next (size + j) i) i first) x 0) (λ x. get_or (set (set prev first i) i (size + j)) x 0) (size + j) xs (size + j)) (sym first-here)
        (link-first nx (λ x. get_or (set (set next (size + j) i) i first) x 0) pv (λ x. get_or (set (set prev first i) i (size + j)) x 0) (size + j) i (lists j) (rings.path j in-j)
        (heads-apart rings j j in-j) (outside-free j in-j).1 i-head (rings-distinct rings j in-j)
        (next-before (size + j) first (omega arith) node i-head apart-first) (next-i (size + j) first (omega arith) node i-head apart-first)
        (prev-i (size + j) first (omega arith) node i-head apart-first) (prev-after (size + j) first (omega arith) node i-head apart-first)
        (next-keeps (size + j) first (omega arith) node i-head apart-first) (λ x a e. prev-keeps (size + j) first (omega arith) node i-head apart-first x e a)))
        (λ k in' other. outside-head rings j k in' other)
        (λ k in' other. near-first (Outside rings k) (outside-head rings j k in' other) (outside-each rings j k in-j in' other))
        (λ Q each q. subst (Each Q) (sym first-here) (q, each))
        (λ x h. ap (list_any (λ y. y == x)) first-here ∙ or_true (i == x) (list_any (λ y. y == x) (lists j)) h)
        (ap (list_any (λ y. y == i)) first-here ∙ ap (λ b. b || list_any (λ y. y == i) (lists j)) (same_itself i i refl)) where
          or_true : (a b : Bool) → b ≡ true → (a || b) ≡ true
          or_true true b h = refl
          or_true false b h = h

    -- at the end of list j
    abbrev final : ℕ
    final = pv (size + j)

    abbrev pub lists-last : ℕ → List ℕ
    lists-last k = cond (k == j) (lists k ++ i ∷ []) (lists k)

    last-here : lists-last j ≡ lists j ++ i ∷ []
    last-here = ap (λ b. cond b (lists j ++ i ∷ []) (lists j)) (same_itself j j refl)

    near-last : (Q : ℕ → Type 0) → Q (size + j) → Each Q (lists j) → Q final
    near-last Q head each = last-of nx pv Q (size + j) (lists j) (size + j) (rings.path j in-j) head each

    pub put-last : IsRings size count (set (set next final i) i (size + j)) (set (set prev (size + j) i) i final) (set place i j) lists-last
    put-last =
        let apart-last : Apart i final = near-last (Apart i) i-head (outside-free j in-j).1 in
        let node = last-node rings j in-j in
        rings-in final (size + j) node (omega arith) apart-last i-head lists-last
        (λ k other. ap (λ b. cond b (lists k ++ i ∷ []) (lists k)) (unlike k j other))
        (subst (λ (xs : List ℕ). IsPath (λ x. get_or (set (set next final i) i (size + j)) x 0) (λ x. get_or (set (set prev (size + j) i) i final) x 0) (size + j) xs (size + j)) (sym last-here)
        (link-last nx (λ x. get_or (set (set next final i) i (size + j)) x 0) pv (λ x. get_or (set (set prev (size + j) i) i final) x 0) (size + j) i (lists j) (size + j) (rings.path j in-j)
        (heads-apart rings j j in-j) (heads-apart rings j j in-j) (outside-free j in-j).1 (λ e. i-head e) (λ e. i-head e) (rings-distinct rings j in-j)
        (next-before final (size + j) node (omega arith) apart-last i-head) (next-i final (size + j) node (omega arith) apart-last i-head)
        (prev-i final (size + j) node (omega arith) apart-last i-head) (prev-after final (size + j) node (omega arith) apart-last i-head)
        (next-keeps final (size + j) node (omega arith) apart-last i-head) (λ x a e. prev-keeps final (size + j) node (omega arith) apart-last i-head x e a)))
        (λ k in' other. near-last (Outside rings k) (outside-head rings j k in' other) (outside-each rings j k in-j in' other))
        (λ k in' other. outside-head rings j k in' other)
        (λ Q each q. subst (Each Q) (sym last-here) (each-append Q (lists j) (i ∷ []) each (q, tt)))
        (λ x h. ap (list_any (λ y. y == x)) last-here ∙ list_any-append (λ y. y == x) (lists j) (i ∷ []) ∙ or_left (list_any (λ y. y == x) (lists j)) (list_any (λ y. y == x) (i ∷ [])) h)
        (ap (list_any (λ y. y == i)) last-here ∙ list_any-append (λ y. y == i) (lists j) (i ∷ []) ∙ ap (λ b. list_any (λ y. y == i) (lists j) || (b || false)) (same_itself i i refl) ∙ or_end (list_any (λ y. y == i) (lists j))) where
          or_left : (a b : Bool) → a ≡ true → (a || b) ≡ true
          or_left true b h = refl
          or_left false b h = cc

          or_end : (a : Bool) → (a || true) ≡ true
          or_end true = refl
          or_end false = refl
