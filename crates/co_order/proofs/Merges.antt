-- Merges: before the first note, and after one more.
use Rattle.std.proofs.Common.{◌≡◌, ℕ, zero, suc, ◌+◌, ◌<◌, ◌≤◌, ◌==◌, true, inl, inr, set, get_or, get_or-set_same, get_or-set_other, cond, ◌&&◌, List, [], ◌∷◌, ◌++◌, length, take, count_by, refl, ap, sym, subst, ◌∙◌, arith}
use Rattle.std.specs.Prelude.{Some, slice_get}
use Rattle.std.specs.List.{filter_map}
use Rattle.std.proofs.lemmas.Bool.{cases_lt, cases_eq}
use Rattle.std.proofs.lemmas.Bool.Decides.{nat_tests}
use Rattle.std.proofs.lemmas.List.Sums.{sum_by-set}
use Rattle.std.proofs.lemmas.List.{take-append-le}
use Rattle.std.proofs.lemmas.List.Elements.{filter_map-append}
use Rattle.std.proofs.Math.Seq.{take-append_seam}
use Rattle.std.proofs.lemmas.Option.{slice_get_within}
use Rattle.co_program.specs.declared.script.Script.{Script}
use Rattle.co_program.specs.Actors.{actor_count}
use Rattle.co_print.specs.Order.{place_index, place_count}
use Rattle.co_report.specs.declared.line.Line.{Line}
use Rattle.co_order.specs.declared.merge.Merge.{Merge}
use Rattle.co_check.specs.Numbers.{lines_made_by}
use Rattle.co_check.specs.Shown.{actor_of}
use Rattle.co_order.specs.Order.{notes_at, lines_in_place, comes_next, times, MayCome, IsMerge}
use Rattle.co_order.specs.Merging.{AreCountsBy, IsMerging, actor_key, place_key, not_come}
use Rattle.co_order.proofs.Counted.{counted_more}

-- one note more
pub notes_more : (lines : List Line) (order : List ℕ) (i : ℕ) (l : Line) → slice_get lines i ≡ Some l → notes_at lines (order ++ i ∷ []) ≡ notes_at lines order ++ l ∷ []
notes_more lines order i l stands = filter_map-append (slice_get lines) order (i ∷ []) ∙ ap (λ ls. notes_at lines order ++ ls) one
  where
    one : filter_map (slice_get lines) (i ∷ []) ≡ l ∷ []
    one = rw stands refl

-- what stands in a list to which one comes
pub get_front : {X : Type 0} (xs : List X) (x : X) (k : ℕ) → k < length xs → slice_get (xs ++ x ∷ []) k ≡ slice_get xs k
get_front [] x k h = absurd (omega arith)
get_front (y ∷ ys) x zero h = refl
get_front (y ∷ ys) x (suc k) h = get_front ys x k (omega arith)

pub get_end : {X : Type 0} (xs : List X) (x y : X) (k : ℕ) → length xs ≤ k → slice_get (xs ++ x ∷ []) k ≡ Some y → (k ≡ length xs) × (y ≡ x)
get_end [] x y zero h e = (refl, cc)
get_end [] x y (suc k) h e = cc
get_end (z ∷ zs) x y zero h e = absurd (omega arith)
get_end (z ∷ zs) x y (suc k) h e = let r = get_end zs x y k (omega arith) e in (omega (arith, r.0), r.1)

pub get_last : {X : Type 0} (xs : List X) (x : X) → slice_get (xs ++ x ∷ []) (length xs) ≡ Some x
get_last [] x = refl
get_last (y ∷ ys) x = get_last ys x

pub merge_more : (s : Script) (lines : List Line) (order : List ℕ) (i : ℕ) → IsMerge s lines order → MayCome s lines order i → IsMerge s lines (order ++ i ∷ [])
merge_more s lines order i merge next k j at = elim (cases_lt k (length order)) [
  | inl front ↦ subst (λ (o : List ℕ). MayCome s lines o j) (sym (take-append-le k order (i ∷ []) (omega arith))) (merge k j (sym (get_front order i k front) ∙ at))
  | inr end ↦ (let r = get_end order i j k end at in
      subst (λ (o : List ℕ). MayCome s lines o j) (sym (ap (λ n. take n (order ++ i ∷ [])) r.0 ∙ take-append_seam order (i ∷ []))) (subst (MayCome s lines order) (sym r.1) next))
]

pub merge_none : (s : Script) (lines : List Line) → IsMerge s lines []
merge_none s lines k i at = cc

-- ---- what the code keeps

-- what it is of a note that may come next
first_of : (t n m r p : ℕ) → ((t == 0) && ((n == m) && (r == p))) ≡ true → t ≡ 0
first_of t n m r p h = grind (arith, nat_tests)

pub next_left : (s : Script) (lines : List Line) (order : List ℕ) (i : ℕ) (l : Line) → comes_next s lines order i l ≡ true → times i order ≡ 0
next_left s lines order i l h =
    let come : List Line = notes_at lines order in
    first_of (times i order) l.number (lines_made_by (actor_of l.entry) come) (lines_in_place s (place_index s l.place) (take i lines)) (lines_in_place s (place_index s l.place) come) h

pub merging_more : (s : Script) (lines : List Line) (x y : Merge) (i a p : ℕ) (l : Line) → IsMerging s lines x → slice_get lines i ≡ Some l → comes_next s lines x.order i l ≡ true →
    a ≡ actor_key l → a < actor_count s → p ≡ place_key s l → p < place_count s →
    y.numbers ≡ set x.numbers a (get_or x.numbers a 0 + 1) → y.positions ≡ set x.positions p (get_or x.positions p 0 + 1) →
    y.come ≡ set x.come i (get_or x.come i 0 + 1) → y.order ≡ x.order ++ i ∷ [] → IsMerging s lines y
merging_more s lines x y i a p l h stands next a_is a_below p_is p_below numbers_are positions_are come_is order_is = record {
  merge = subst (IsMerge s lines) (sym order_is) (merge_more s lines x.order i h.merge (record { line = l; stands = stands; next = next }));
  numbers = subst (λ (ns : List ℕ). AreCountsBy actor_key (actor_count s) (notes_at lines y.order) ns) (sym numbers_are)
      (subst (λ (ls : List Line). AreCountsBy actor_key (actor_count s) ls (set x.numbers a (get_or x.numbers a 0 + 1))) (sym notes_are)
      (counted_more actor_key (actor_count s) (notes_at lines x.order) l x.numbers a h.numbers a_is a_below));
  positions = subst (λ (ns : List ℕ). AreCountsBy (place_key s) (place_count s) (notes_at lines y.order) ns) (sym positions_are)
      (subst (λ (ls : List Line). AreCountsBy (place_key s) (place_count s) ls (set x.positions p (get_or x.positions p 0 + 1))) (sym notes_are)
      (counted_more (place_key s) (place_count s) (notes_at lines x.order) l x.positions p h.positions p_is p_below));
  come = subst (λ (ns : List ℕ). AreCountsBy (λ j. j) (length lines) y.order ns) (sym come_is)
      (subst (λ (o : List ℕ). AreCountsBy (λ j. j) (length lines) o (set x.come i (get_or x.come i 0 + 1))) (sym order_is)
      (counted_more (λ j. j) (length lines) x.order i x.come i h.come refl inside));
  once = λ j below. subst (λ (ns : List ℕ). get_or ns j 0 ≤ 1) (sym come_is) (elim (cases_eq j i) [
    | inl same ↦ subst (λ (k : ℕ). get_or (set x.come i (get_or x.come i 0 + 1)) k 0 ≤ 1) (sym same) (omega (arith, get_or-set_same x.come i (get_or x.come i 0 + 1) 0 (omega (arith, inside, h.come.long)), zero_before))
    | inr apart ↦ omega (arith, get_or-set_other x.come i j (get_or x.come i 0 + 1) 0 apart, h.once j below)
  ]);
}
  where
    inside : i < length lines
    inside = slice_get_within lines i l stands

    zero_before : get_or x.come i 0 ≡ 0
    zero_before = h.come.each i inside ∙ next_left s lines x.order i l next

    notes_are : notes_at lines y.order ≡ notes_at lines x.order ++ l ∷ []
    notes_are = ap (notes_at lines) order_is ∙ notes_more lines x.order i l stands

pub left_falls : (s : Script) (lines : List Line) (x : Merge) (come : List ℕ) (i : ℕ) (l : Line) → IsMerging s lines x → slice_get lines i ≡ Some l → comes_next s lines x.order i l ≡ true →
    come ≡ set x.come i (get_or x.come i 0 + 1) → count_by (λ (c : ℕ). c == 0) come < not_come x
left_falls s lines x come i l h stands next come_is =
    let inside : i < length lines = slice_get_within lines i l stands in
    let zero_before : get_or x.come i 0 ≡ 0 = h.come.each i inside ∙ next_left s lines x.order i l next in
    let one_after : get_or x.come i 0 + 1 ≡ 1 = ap (λ n. n + 1) zero_before in
    let f : ℕ → ℕ = λ (c : ℕ). cond (c == 0) 1 0 in
    let e = sum_by-set f x.come i (get_or x.come i 0 + 1) 0 (omega (arith, inside, h.come.long)) in
    let was : f (get_or x.come i 0) ≡ 1 = ap f zero_before in
    let is : f (get_or x.come i 0 + 1) ≡ 0 = ap f one_after in
    let same : count_by (λ (c : ℕ). c == 0) come ≡ count_by (λ (c : ℕ). c == 0) (set x.come i (get_or x.come i 0 + 1)) = ap (λ (cs : List ℕ). count_by (λ (c : ℕ). c == 0) cs) come_is in
    omega (arith, e, was, is, same)
