-- Where notes came as long as one could and some are left, the report has no order.
use Rattle.std.proofs.Common.{◌≡◌, ◌⊎◌, ℕ, zero, suc, ◌+◌, ◌<◌, ◌≤◌, ◌==◌, ◌&&◌, Bool, true, false, inl, inr, get_or, List, [], ◌∷◌, ◌++◌, length, take, cond, count_by, refl, ap, sym, subst, ◌∙◌, arith}
use Rattle.std.specs.Prelude.{Option, Some, slice_get}
use Rattle.std.proofs.lemmas.Bool.{cases_lt, cases_eq}
use Rattle.std.proofs.lemmas.Bool.Decides.{nat_tests}
use Rattle.std.proofs.lemmas.Option.{slice_get_within, slice_get-get_or}
use Rattle.std.proofs.Math.Seq.{take-length}
use Rattle.co_object.proofs.Passing.{passing, count-passing}
use Rattle.co_check.specs.Shown.{actor_of, is_by}
use Rattle.co_check.specs.Numbers.{lines_made_by}
use Rattle.co_program.specs.declared.script.Script.{Script}
use Rattle.co_print.specs.Order.{place_index}
use Rattle.co_report.specs.declared.line.Line.{Line}
use Rattle.co_order.specs.Order.{notes_at, lines_in_place, comes_next, times, MayCome, IsMerge, IsOrder, IsStuck}
use Rattle.co_order.proofs.Counted.{count_own, count_other}
use Rattle.co_order.proofs.Merges.{notes_more}

-- ---- what stands in an order

-- an index stands in an order
pub record IsIn (order : List ℕ) (i : ℕ) : Type 0 where
  pub at : ℕ
  pub is : slice_get order at ≡ Some i

some_is : {X : Type 0} (x y : X) → ◌≡◌ {A = Option X} (Some x) (Some y) → x ≡ y
some_is x y h = cc

eq_true : (m n : ℕ) → (m == n) ≡ true → m ≡ n
eq_true m n h = grind (arith, nat_tests)

true_eq : (m n : ℕ) → m ≡ n → (m == n) ≡ true
true_eq m n h = grind (arith, nat_tests)

in_passing : (i : ℕ) (order : List ℕ) → 1 ≤ passing (λ j. j == i) order → IsIn order i
in_passing i [] h = absurd (omega arith)
in_passing i (x ∷ xs) h = by_test (x == i) refl (in_passing i xs)
  where
    by_test : (b : Bool) → (x == i) ≡ b → (1 ≤ passing (λ j. j == i) xs → IsIn xs i) → IsIn (x ∷ xs) i
    by_test true is rest = record { at = 0; is = ap (λ (n : ℕ). Some n) (eq_true x i is) }
    by_test false is rest = (let none : ◌≡◌ {A = ℕ} (cond (x == i) 1 0) 0 = ap (λ b. cond b 1 0) is in
        let r : IsIn xs i = rest (omega (arith, h, none)) in record { at = suc r.at; is = r.is })

passing_in : (i : ℕ) (order : List ℕ) (q : ℕ) → slice_get order q ≡ Some i → 1 ≤ passing (λ j. j == i) order
passing_in i [] q h = cc
passing_in i (x ∷ xs) zero h = (let one : ◌≡◌ {A = ℕ} (cond (x == i) 1 0) 1 = ap (λ b. cond b 1 0) (true_eq x i (some_is x i h)) in omega (arith, one))
passing_in i (x ∷ xs) (suc q) h = omega (arith, passing_in i xs q h)

pub in_times : (i : ℕ) (order : List ℕ) → 1 ≤ times i order → IsIn order i
in_times i order h = in_passing i order (omega (arith, h, count-passing (λ j. j == i) order))

pub times_in : (i : ℕ) (order : List ℕ) → IsIn order i → 1 ≤ times i order
times_in i order h = omega (arith, passing_in i order h.at h.is, count-passing (λ j. j == i) order)

-- ---- the notes of a class, which are those of an actor or of a place

module _ (lines : List Line) (p : Line → Bool) where
  -- each index is that of a line
  pub record Stand (order : List ℕ) : Type 0 where
    pub line : (k i : ℕ) → slice_get order k ≡ Some i → (l : Line) × (slice_get lines i ≡ Some l)

  -- each note of the class comes after as many of the class as its value says
  pub record AreCounted (val : ℕ → Line → ℕ) (order : List ℕ) : Type 0 where
    pub value : (k i : ℕ) (l : Line) → slice_get order k ≡ Some i → slice_get lines i ≡ Some l → p l ≡ true → val i l ≡ count_by p (notes_at lines (take k order))

  take_more : (order : List ℕ) (k i : ℕ) → slice_get order k ≡ Some i → take (suc k) order ≡ take k order ++ i ∷ []
  take_more [] k i h = cc
  take_more (x ∷ xs) zero i h = ap (λ n. n ∷ []) (some_is x i h)
  take_more (x ∷ xs) (suc k) i h = ap (λ ys. x ∷ ys) (take_more xs k i h)

  count_yes : (order : List ℕ) (k i : ℕ) (l : Line) → slice_get order k ≡ Some i → slice_get lines i ≡ Some l → p l ≡ true →
      count_by p (notes_at lines (take (suc k) order)) ≡ count_by p (notes_at lines (take k order)) + 1
  count_yes order k i l at stands own =
      ap (λ o. count_by p (notes_at lines o)) (take_more order k i at) ∙ (ap (count_by p) (notes_more lines (take k order) i l stands) ∙ count_own p (notes_at lines (take k order)) l own)

  count_no : (order : List ℕ) (k i : ℕ) (l : Line) → slice_get order k ≡ Some i → slice_get lines i ≡ Some l → p l ≡ false →
      count_by p (notes_at lines (take (suc k) order)) ≡ count_by p (notes_at lines (take k order))
  count_no order k i l at stands other =
      ap (λ o. count_by p (notes_at lines o)) (take_more order k i at) ∙ (ap (count_by p) (notes_more lines (take k order) i l stands) ∙ count_other p (notes_at lines (take k order)) l other)

  count_step : (order : List ℕ) (k i : ℕ) (l : Line) → slice_get order k ≡ Some i → slice_get lines i ≡ Some l →
      count_by p (notes_at lines (take k order)) ≤ count_by p (notes_at lines (take (suc k) order))
  count_step order k i l at stands = by_test (p l) refl
    where
      by_test : (b : Bool) → p l ≡ b → count_by p (notes_at lines (take k order)) ≤ count_by p (notes_at lines (take (suc k) order))
      by_test true own = omega (arith, count_yes order k i l at stands own)
      by_test false other = omega (arith, count_no order k i l at stands other)

  -- the count never falls
  count_rises : (order : List ℕ) → Stand order → (j k : ℕ) → j ≤ k → k ≤ length order → count_by p (notes_at lines (take j order)) ≤ count_by p (notes_at lines (take k order))
  count_rises order stand j zero h within = (let e : j ≡ 0 = omega arith in omega (arith, ap (λ n. count_by p (notes_at lines (take n order))) e))
  count_rises order stand j (suc k) h within = elim (cases_lt k j) [
    | inl past ↦ (let e : j ≡ suc k = omega arith in omega (arith, ap (λ n. count_by p (notes_at lines (take n order))) e))
    | inr more ↦ (let at : slice_get order k ≡ Some (get_or order k 0) = slice_get-get_or order k 0 (omega arith) in
        let there = stand.line k (get_or order k 0) at in
        omega (arith, count_rises order stand j k (omega arith) (omega arith), count_step order k (get_or order k 0) there.0 at there.1))
  ]

  module _ (val : ℕ → Line → ℕ) (order : List ℕ) (stand : Stand order) (counted : AreCounted val order) where
    -- the value of a note that has come is below the count
    pub value_below : (q i : ℕ) (l : Line) → slice_get order q ≡ Some i → slice_get lines i ≡ Some l → p l ≡ true → (k : ℕ) → q < k → k ≤ length order → val i l < count_by p (notes_at lines (take k order))
    value_below q i l at stands own k below within =
        omega (arith, counted.value q i l at stands own, count_yes order q i l at stands own, count_rises order stand (suc q) k (omega arith) within)

    -- two notes of one value are one
    pub value_once : (m k i j : ℕ) (l n : Line) → slice_get order m ≡ Some i → slice_get order k ≡ Some j → slice_get lines i ≡ Some l → slice_get lines j ≡ Some n → p l ≡ true → p n ≡ true → val i l ≡ val j n → m ≡ k
    value_once m k i j l n at_m at_k stands_m stands_k own_m own_k same = elim (cases_lt m k) [
      | inl before ↦ absurd (omega (arith, value_below m i l at_m stands_m own_m k before (within k j at_k), counted.value k j n at_k stands_k own_k))
      | inr not_before ↦ elim (cases_lt k m) [
        | inl behind ↦ absurd (omega (arith, value_below k j n at_k stands_k own_k m behind (within m i at_m), counted.value m i l at_m stands_m own_m))
        | inr not_behind ↦ omega arith
      ]
    ]
      where
        within : (k i : ℕ) → slice_get order k ≡ Some i → k ≤ length order
        within k i at = omega (arith, slice_get_within order k i at)

    -- a note of the class with a value, among the first n
    pub record HasValue (n v : ℕ) : Type 0 where
      pub at : ℕ
      pub index : ℕ
      pub note : Line
      pub early : at < n
      pub is : slice_get order at ≡ Some index
      pub stands : slice_get lines index ≡ Some note
      pub own : p note ≡ true
      pub valued : val index note ≡ v

    -- each value below the count is there
    pub value_there : (n v : ℕ) → n ≤ length order → v < count_by p (notes_at lines (take n order)) → HasValue n v
    value_there zero v within below = absurd (omega (arith, below, nothing))
      where
        nothing : count_by p (notes_at lines (take 0 order)) ≡ 0
        nothing = refl
    value_there (suc n) v within below = by_test (p there.0) refl (value_there n v)
      where
        at : slice_get order n ≡ Some (get_or order n 0)
        at = slice_get-get_or order n 0 (omega arith)

        there : (l : Line) × (slice_get lines (get_or order n 0) ≡ Some l)
        there = stand.line n (get_or order n 0) at

        later : HasValue n v → HasValue (suc n) v
        later r = record { at = r.at; index = r.index; note = r.note; early = omega (arith, r.early); is = r.is; stands = r.stands; own = r.own; valued = r.valued }

        by_test : (b : Bool) → p there.0 ≡ b → (n ≤ length order → v < count_by p (notes_at lines (take n order)) → HasValue n v) → HasValue (suc n) v
        by_test false other before = later (before (omega arith) (omega (arith, below, count_no order n (get_or order n 0) there.0 at there.1 other)))
        by_test true own before = elim (cases_lt v (count_by p (notes_at lines (take n order)))) [
          | inl low ↦ later (before (omega arith) low)
          | inr high ↦ record {
            at = n;
            index = get_or order n 0;
            note = there.0;
            early = omega arith;
            is = at;
            stands = there.1;
            own = own;
            valued = omega (arith, counted.value n (get_or order n 0) there.0 at there.1 own, below, count_yes order n (get_or order n 0) there.0 at there.1 own, high);
          }
        ]

-- ---- an order, and a merge that has not the k-th note of it, but all before

module _ (lines : List Line) (p : Line → Bool) (val : ℕ → Line → ℕ) (order part : List ℕ) (k x : ℕ) (l : Line) where
  pub record Misses : Type 0 where
    pub order_stands : Stand lines p order
    pub part_stands : Stand lines p part
    pub order_counted : AreCounted lines p val order
    pub part_counted : AreCounted lines p val part
    pub is : slice_get order k ≡ Some x
    pub stands : slice_get lines x ≡ Some l
    pub own : p l ≡ true
    pub missed : IsIn part x → ⊥
    pub before : (j i : ℕ) → j < k → slice_get order j ≡ Some i → IsIn part i
    pub all : (j i : ℕ) → slice_get part j ≡ Some i → IsIn order i

  -- as many of its class have come in the one as in the other before it
  pub same_count : Misses → count_by p (notes_at lines part) ≡ count_by p (notes_at lines (take k order))
  same_count h = elim (cases_lt (count_by p (notes_at lines part)) (count_by p (notes_at lines (take k order)))) [
    | inl less ↦ absurd (too_few less)
    | inr not_less ↦ elim (cases_lt (count_by p (notes_at lines (take k order))) (count_by p (notes_at lines part))) [
      | inl more ↦ absurd (too_many more)
      | inr not_more ↦ omega arith
    ]
  ]
    where
      whole : count_by p (notes_at lines (take (length part) part)) ≡ count_by p (notes_at lines part)
      whole = ap (λ o. count_by p (notes_at lines o)) (take-length part)

      too_few : count_by p (notes_at lines part) < count_by p (notes_at lines (take k order)) → ⊥
      too_few less =
          let r = value_there lines p val order h.order_stands h.order_counted k (count_by p (notes_at lines part)) (omega (arith, slice_get_within order k x h.is)) less in
          let there = h.before r.at r.index r.early r.is in
          absurd (omega (arith, value_below lines p val part h.part_stands h.part_counted there.at r.index r.note there.is r.stands r.own (length part) (slice_get_within part there.at r.index there.is) (omega arith), r.valued, whole))

      too_many : count_by p (notes_at lines (take k order)) < count_by p (notes_at lines part) → ⊥
      too_many more =
          let r = value_there lines p val part h.part_stands h.part_counted (length part) (count_by p (notes_at lines (take k order))) (omega arith) (omega (arith, more, whole)) in
          let there = h.all r.at r.index r.is in
          let one : there.at ≡ k = value_once lines p val order h.order_stands h.order_counted there.at k r.index x r.note l there.is h.is r.stands h.stands r.own h.own (r.valued ∙ sym (h.order_counted.value k x l h.is h.stands h.own)) in
          let same : r.index ≡ x = some_is r.index x (sym there.is ∙ (ap (slice_get order) one ∙ h.is)) in
          h.missed (record { at = r.at; is = r.is ∙ ap (λ (n : ℕ). Some n) same })

-- ---- merges

next_parts : (t n m r p : ℕ) → ((t == 0) && ((n == m) && (r == p))) ≡ true → (n ≡ m) × (r ≡ p)
next_parts t n m r p h = (grind (arith, nat_tests), grind (arith, nat_tests))

next_made : (t n m r p : ℕ) → t ≡ 0 → n ≡ m → r ≡ p → ((t == 0) && ((n == m) && (r == p))) ≡ true
next_made t n m r p a b c = grind (arith, nat_tests)

module _ (s : Script) (lines : List Line) where
  abbrev pub by_actor : ℕ → Line → ℕ
  by_actor i l = l.number

  abbrev pub by_place : ℕ → ℕ → Line → ℕ
  by_place place i l = lines_in_place s place (take i lines)

  stand_of : (p : Line → Bool) (order : List ℕ) → IsMerge s lines order → Stand lines p order
  stand_of p order h = record { line = λ k i at. ((h k i at).line, (h k i at).stands) }

  module _ (order : List ℕ) (h : IsMerge s lines order) where
    note_is : (k i : ℕ) (l : Line) (at : slice_get order k ≡ Some i) → slice_get lines i ≡ Some l → (h k i at).line ≡ l
    note_is k i l at stands = some_is (h k i at).line l (sym (h k i at).stands ∙ stands)

    next_is : (k i : ℕ) (l : Line) → slice_get order k ≡ Some i → slice_get lines i ≡ Some l → comes_next s lines (take k order) i l ≡ true
    next_is k i l at stands = subst (λ (m : Line). comes_next s lines (take k order) i m ≡ true) (note_is k i l at stands) (h k i at).next

    pub actor_counted : (a : ℕ) → AreCounted lines (is_by a) by_actor order
    actor_counted a = record {
      value = λ k i l at stands own.
          (next_parts (times i (take k order)) l.number _ (lines_in_place s (place_index s l.place) (take i lines)) _ (next_is k i l at stands)).0
          ∙ ap (λ n. lines_made_by n (notes_at lines (take k order))) (eq_true (actor_of l.entry) a own);
    }

    pub place_counted : (q : ℕ) → AreCounted lines (λ l. place_index s l.place == q) (by_place q) order
    place_counted q = record {
      value = λ k i l at stands own.
          subst (λ (n : ℕ). lines_in_place s n (take i lines) ≡ lines_in_place s n (notes_at lines (take k order))) (eq_true (place_index s l.place) q own)
          (next_parts (times i (take k order)) l.number (lines_made_by (actor_of l.entry) (notes_at lines (take k order))) (lines_in_place s (place_index s l.place) (take i lines)) _ (next_is k i l at stands)).1;
    }

  -- the first note of an order that a merge has not
  pub record FirstMissed (order part : List ℕ) : Type 0 where
    pub at : ℕ
    pub index : ℕ
    pub is : slice_get order at ≡ Some index
    pub missed : times index part ≡ 0
    pub before : (j i : ℕ) → j < at → slice_get order j ≡ Some i → IsIn part i

  first_missed : (order part : List ℕ) (n : ℕ) → n ≤ length order → ((j i : ℕ) → j < n → slice_get order j ≡ Some i → IsIn part i) ⊎ FirstMissed order part
  first_missed order part zero within = inl (λ j i below at. absurd (omega arith))
  first_missed order part (suc n) within = elim (first_missed order part n (omega arith)) [
    | inr found ↦ inr found
    | inl none ↦ elim (cases_lt 0 (times (get_or order n 0) part)) [
      | inl there ↦ inl (λ j i below at. (elim (cases_eq j n) [
        | inl same ↦ (let e : get_or order n 0 ≡ i = some_is (get_or order n 0) i (sym (slice_get-get_or order n 0 (omega arith)) ∙ (ap (slice_get order) (sym same) ∙ at)) in
            in_times i part (omega (arith, there, ap (λ m. times m part) e)))
        | inr apart ↦ none j i (omega arith) at
      ]))
      | inr missed ↦ inr (record { at = n; index = get_or order n 0; is = slice_get-get_or order n 0 (omega arith); missed = omega arith; before = none })
    ]
  ]

  -- a note that may come next is in the first note that the merge has not
  may_come : (order part : List ℕ) → IsOrder s lines order → IsMerge s lines part → (m : FirstMissed order part) → MayCome s lines part m.index
  may_come order part whole h m =
      let k = m.at in
      let x = m.index in
      let here = whole.merge k x m.is in
      let l = here.line in
      let parts = next_parts (times x (take k order)) l.number _ (lines_in_place s (place_index s l.place) (take x lines)) _ here.next in
      let missed : IsIn part x → ⊥ = λ (there : IsIn part x). absurd (omega (arith, times_in x part there, m.missed)) in
      let all : (j i : ℕ) → slice_get part j ≡ Some i → IsIn order i = λ (j i : ℕ) (at : slice_get part j ≡ Some i). in_times i order (omega (arith, whole.once i (slice_get_within lines i (h j i at).line (h j i at).stands))) in
      let actors : Misses lines (is_by (actor_of l.entry)) by_actor order part k x l = record {
        order_stands = stand_of (is_by (actor_of l.entry)) order whole.merge;
        part_stands = stand_of (is_by (actor_of l.entry)) part h;
        order_counted = actor_counted order whole.merge (actor_of l.entry);
        part_counted = actor_counted part h (actor_of l.entry);
        is = m.is;
        stands = here.stands;
        own = self_eq (actor_of l.entry);
        missed = missed;
        before = m.before;
        all = all;
      } in
      let places : Misses lines (λ n. place_index s n.place == place_index s l.place) (by_place (place_index s l.place)) order part k x l = record {
        order_stands = stand_of (λ n. place_index s n.place == place_index s l.place) order whole.merge;
        part_stands = stand_of (λ n. place_index s n.place == place_index s l.place) part h;
        order_counted = place_counted order whole.merge (place_index s l.place);
        part_counted = place_counted part h (place_index s l.place);
        is = m.is;
        stands = here.stands;
        own = self_eq (place_index s l.place);
        missed = missed;
        before = m.before;
        all = all;
      } in
      record {
        line = l;
        stands = here.stands;
        next = next_made (times x part) l.number _ (lines_in_place s (place_index s l.place) (take x lines)) _ m.missed
            (parts.0 ∙ sym (same_count lines (is_by (actor_of l.entry)) by_actor order part k x l actors))
            (parts.1 ∙ sym (same_count lines (λ n. place_index s n.place == place_index s l.place) (by_place (place_index s l.place)) order part k x l places));
      }
    where
      self_eq : (n : ℕ) → (n == n) ≡ true
      self_eq n = grind (arith, nat_tests)

  pub no_order : (line : ℕ) → IsStuck s lines line → (order : List ℕ) → IsOrder s lines order → ⊥
  no_order line stuck order whole = elim (first_missed order stuck.order (length order) (omega arith)) [
    | inr found ↦ stuck.nothing found.index (may_come order stuck.order whole stuck.merge found)
    | inl none ↦ (let left = stuck.left in
        let there = in_times left.index order (omega (arith, whole.once left.index (slice_get_within lines left.index left.note left.stands))) in
        absurd (omega (arith, times_in left.index stuck.order (none there.at left.index (slice_get_within order there.at left.index there.is) there.is), left.left)))
  ]
