-- What becomes of the lists when a callout is taken out of one of them.
-- The list that is written to by the lemmas on paths, and every other because none of its numbers is written to.
use Rattle.std.proofs.Common.{◌≡◌, ℕ, ◌+◌, ◌<◌, Bool, true, false, not, ◌==◌, List, ◌∷◌, ◌++◌, refl, ap, sym, subst, ◌∙◌, arith, get_or, set}
use Rattle.std.specs.List.{list_any}
use Rattle.std.proofs.lemmas.List.{get_or-set_other, get_or-set_same, length-set}
use Rattle.std.proofs.lemmas.Map.Views.{any-filter_same}
use Rattle.co_object.proofs.Each.{Each, each-all}
use Rattle.co_object.proofs.Numbers.{same_number, same_itself}
use Rattle.co_queue.proofs.Order.{unlike}
use Rattle.co_bucket.specs.Links.{IsPath}
use Rattle.co_bucket.specs.Rings.{IsRings, without}
use Rattle.co_bucket.proofs.Paths.{Apart, IsDistinct, first-of, last-of, split-at, split-path, each-front, each-back, unlink}
use Rattle.co_bucket.proofs.Elements.{all-of}
use Rattle.co_bucket.proofs.Without.{without-none, without-split, each-kept}
use Rattle.co_bucket.proofs.Linked.{rings-placed, heads-apart, rings-distinct, number-apart, Outside, outside-head, outside-each, IsNode, node-each, other-ring}

module _ {size count : ℕ} {next prev place : List ℕ} {lists : ℕ → List ℕ} (rings : IsRings size count next prev place lists) where
  abbrev nx : ℕ → ℕ
  nx x = get_or next x 0

  abbrev pv : ℕ → ℕ
  pv x = get_or prev x 0

  module _ (i : ℕ) (small : i < size) (stands : get_or place i 0 < count) where
    abbrev home : ℕ
    home = get_or place i 0

    parts : (front : List ℕ) × (back : List ℕ) × (lists home ≡ front ++ i ∷ back)
    parts = split-at i (lists home) (rings.there i small stands)

    path-here : IsPath nx pv (size + home) (parts.0 ++ i ∷ parts.1) (size + home)
    path-here = subst (λ xs. IsPath nx pv (size + home) xs (size + home)) parts.2 (rings.path home stands)

    near : (Q : ℕ → Type 0) → Q (size + home) → Each Q (lists home) → Q (nx i) × Q (pv i)
    near Q head each =
        let halves = split-path nx pv (size + home) i parts.0 parts.1 (size + home) path-here in
        let here = subst (Each Q) parts.2 each in (
          first-of nx pv Q i parts.1 (size + home) halves.1 (each-back Q parts.0 i parts.1 here) head,
          last-of nx pv Q (size + home) parts.0 i halves.0 head (each-front Q parts.0 i parts.1 here),
        )

    pub next-node : nx i < size + count
    next-node = (near (IsNode rings) (omega arith) (node-each rings home stands)).0

    pub prev-node : pv i < size + count
    prev-node = (near (IsNode rings) (omega arith) (node-each rings home stands)).1

    abbrev next-out : List ℕ
    next-out = set next (pv i) (nx i)

    abbrev prev-out : List ℕ
    prev-out = set prev (nx i) (pv i)

    path-out : (k : ℕ) → k < count → IsPath (λ x. get_or next-out x 0) (λ x. get_or prev-out x 0) (size + k) (without i (lists k)) (size + k)
    path-out k in' = at_test (home == k) refl where
      at_test : (b : Bool) → (home == k) ≡ b → IsPath (λ x. get_or next-out x 0) (λ x. get_or prev-out x 0) (size + k) (without i (lists k)) (size + k)
      at_test true is =
          let here = same_number home k is in
          let distinct = subst IsDistinct parts.2 (rings-distinct rings home stands) in
          let nl = rings.next_long in let pl = rings.prev_long in
          let pn = prev-node in let nn = next-node in
          subst (λ (k : ℕ). IsPath (λ x. get_or next-out x 0) (λ x. get_or prev-out x 0) (size + k) (without i (lists k)) (size + k)) here
          (subst (λ (xs : List ℕ). IsPath (λ x. get_or next-out x 0) (λ x. get_or prev-out x 0) (size + home) xs (size + home))
          (sym (ap (without i) parts.2 ∙ without-split i parts.0 parts.1 distinct))
          (unlink nx (λ x. get_or next-out x 0) pv (λ x. get_or prev-out x 0) (size + home) i parts.0 parts.1 (size + home) path-here
          (subst (Each (Apart (size + home))) parts.2 (heads-apart rings home home stands)) (subst (Each (Apart (size + home))) parts.2 (heads-apart rings home home stands)) distinct
          (get_or-set_same next (pv i) (nx i) 0 (omega (arith, nl, pn))) (get_or-set_same prev (nx i) (pv i) 0 (omega (arith, pl, nn)))
          (λ x apart. get_or-set_other next (pv i) x (nx i) 0 apart) (λ x apart. get_or-set_other prev (nx i) x (pv i) 0 apart)))
      at_test false is =
          let other : Apart k home = (λ e. let same = same_itself home k e in cc) in
          let outs = near (Outside rings k) (outside-head rings home k in' other) (outside-each rings home k stands in' other) in
          subst (λ (xs : List ℕ). IsPath (λ x. get_or next-out x 0) (λ x. get_or prev-out x 0) (size + k) xs (size + k)) (sym (without-none i (lists k) (number-apart rings i k in' other)))
          (other-ring rings (λ x. get_or next-out x 0) (λ x. get_or prev-out x 0) (pv i) (pv i) (nx i) (nx i) k in'
          (λ x a _. get_or-set_other next (pv i) x (nx i) 0 a) (λ x a _. get_or-set_other prev (nx i) x (pv i) 0 a) outs.1 outs.1 outs.0 outs.0)

    pub taken-out : IsRings size count next-out prev-out (set place i count) (λ k. without i (lists k))
    taken-out = record {
      path = path-out;
      placed = λ k in'. all-of (λ x. (x < size) × (get_or (set place i count) x 0 ≡ k)) (without i (lists k)) (each-all (λ x. Apart i x × ((x < size) × (get_or place x 0 ≡ k))) (λ x. (x < size) × (get_or (set place i count) x 0 ≡ k))
          (λ x h. (h.1.0, get_or-set_other place i x count 0 h.0 ∙ h.1.1)) (without i (lists k)) (each-kept (λ x. (x < size) × (get_or place x 0 ≡ k)) i (lists k) (rings-placed rings k in')));
      there = λ x below in'.
          let pl = rings.place_long in
          let apart : Apart i x = (λ e. let at' = get_or-set_same place i count 0 (omega (arith, pl)) in let move = ap (λ z. get_or (set place i count) z 0) e in absurd (omega (arith, at', move))) in
          let same = get_or-set_other place i x count 0 apart in
          let in-old : get_or place x 0 < count = omega (arith, same) in
          ap (λ k. list_any (λ y. y == x) (without i (lists k))) same
          ∙ any-filter_same (λ y. y == x) (λ y. not (y == i)) true (λ y is. ap not (unlike y i (λ e. apart (sym (same_number y x is) ∙ e)))) (lists (get_or place x 0))
          ∙ rings.there x below in-old;
      next_long = length-set next (pv i) (nx i) ∙ rings.next_long;
      prev_long = length-set prev (nx i) (pv i) ∙ rings.prev_long;
      place_long = length-set place i count ∙ rings.place_long;
    }
