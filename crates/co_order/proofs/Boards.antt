-- What a board says of its lines, and what the code keeps of an order that is being made.
use Rattle.std.proofs.Common.{◌≡◌, ℕ, zero, suc, ◌+◌, ◌^◌, ◌<◌, ◌≤◌, ◌==◌, ◌&&◌, Bool, true, false, inl, inr, set, get_or, List, [], ◌∷◌, ◌++◌, length, take, refl, ap, sym, subst, ◌∙◌, arith}
use Rattle.std.specs.Prelude.{◌↔◌, IsTrue, Option, Some, None, slice_get, replicate}
use Rattle.std.specs.List.{AllByRecursion}
use Rattle.std.proofs.lemmas.Bool.{cases_lt}
use Rattle.std.proofs.lemmas.List.{length-append, take-append-le}
use Rattle.std.proofs.Math.Seq.{take-append_seam}
use Rattle.std.proofs.lemmas.Option.{slice_get_within, get_or_from_slice_get, slice_get-get_or}
use Rattle.co_program.specs.declared.script.Script.{Script}
use Rattle.co_program.specs.Actors.{actor_count}
use Rattle.co_print.specs.Order.{place_index, place_count}
use Rattle.co_program.specs.Scripts.{IsScript}
use Rattle.co_program.proofs.Places.{index_fits}
use Rattle.co_print.proofs.Places.{index_below}
use Rattle.co_report.specs.declared.line.Line.{Line}
use Rattle.co_check.specs.Lines.{AreLinesOf, IsLineOf}
use Rattle.co_check.specs.Numbers.{lines_made_by}
use Rattle.co_check.specs.Shown.{actor_of}
use Rattle.co_order.specs.declared.merge.Merge.{Merge}
use Rattle.co_order.specs.Order.{notes_at, lines_in_place, comes_next, times, MayCome, IsMerge, IsOrder, IsStuck}
use Rattle.co_order.specs.Merging.{AreCountsBy, AreRanks, IsMerging, actor_key, place_key}
use Rattle.co_order.proofs.Counted.{no_counts, zero-at, counted_more}
use Rattle.co_order.proofs.Merges.{merge_none, get_front, get_end, get_last}
use Rattle.co_order.proofs.Stuck.{no_order}

all_read : {X : Type 0} (P : X → Type 0) (xs : List X) (i : ℕ) (x : X) → AllByRecursion P xs → slice_get xs i ≡ Some x → P x
all_read P [] i x h e = cc
all_read P (y ∷ ys) zero x h e = subst P (some_one y x e) h.0
  where
    some_one : {X : Type 0} (a b : X) → ◌≡◌ {A = Option X} (Some a) (Some b) → a ≡ b
    some_one a b h = cc
all_read P (y ∷ ys) (suc i) x h e = all_read P ys i x h.1 e

pub line_is : (s : Script) (lines : List Line) (i : ℕ) (l : Line) → AreLinesOf s lines → slice_get lines i ≡ Some l → IsLineOf s l
line_is s lines i l h e = all_read (IsLineOf s) lines i l h e

pub actor_below : (s : Script) (lines : List Line) (i : ℕ) (l : Line) → AreLinesOf s lines → slice_get lines i ≡ Some l → actor_key l < actor_count s
actor_below s lines i l h e = (line_is s lines i l h e).actor

pub place_below : (s : Script) (lines : List Line) (i : ℕ) (l : Line) → AreLinesOf s lines → slice_get lines i ≡ Some l → place_key s l < place_count s
place_below s lines i l h e = index_below s l.place (line_is s lines i l h e).place

pub place_fits : (s : Script) (lines : List Line) (i : ℕ) (l : Line) → IsScript s → AreLinesOf s lines → slice_get lines i ≡ Some l → place_index s l.place < 2 ^ 64
place_fits s lines i l ok h e = index_fits s l.place ok (line_is s lines i l h e).place

-- before the first note
pub opened : (s : Script) (lines : List Line) (x : Merge) → x.numbers ≡ replicate (actor_count s) 0 → x.positions ≡ replicate (place_count s) 0 → x.come ≡ replicate (length lines) 0 → x.order ≡ [] → IsMerging s lines x
opened s lines x numbers positions come order = record {
  merge = subst (IsMerge s lines) (sym order) (merge_none s lines);
  numbers = subst (λ (ns : List ℕ). AreCountsBy actor_key (actor_count s) (notes_at lines x.order) ns) (sym numbers) (subst (λ (o : List ℕ). AreCountsBy actor_key (actor_count s) (notes_at lines o) (replicate (actor_count s) 0)) (sym order) (no_counts actor_key (actor_count s)));
  positions = subst (λ (ns : List ℕ). AreCountsBy (place_key s) (place_count s) (notes_at lines x.order) ns) (sym positions) (subst (λ (o : List ℕ). AreCountsBy (place_key s) (place_count s) (notes_at lines o) (replicate (place_count s) 0)) (sym order) (no_counts (place_key s) (place_count s)));
  come = subst (λ (ns : List ℕ). AreCountsBy (λ j. j) (length lines) x.order ns) (sym come) (subst (λ (o : List ℕ). AreCountsBy (λ j. j) (length lines) o (replicate (length lines) 0)) (sym order) (no_counts (λ j. j) (length lines)));
  once = λ i below. omega (arith, ap (λ ns. get_or ns i 0) come, zero-at (length lines) i);
}

-- what the code compares
pub next_is : (s : Script) (lines : List Line) (x : Merge) (ranks : List ℕ) (i a p : ℕ) (l : Line) → IsMerging s lines x → AreRanks s lines ranks → AreLinesOf s lines → slice_get lines i ≡ Some l → a ≡ actor_of l.entry → p ≡ place_index s l.place →
    ((get_or x.come i 0 == 0) && ((l.number == get_or x.numbers a 0) && (get_or ranks i 0 == get_or x.positions p 0))) ≡ comes_next s lines x.order i l
next_is s lines x ranks i a p l h r are stands a_is p_is =
    let come : get_or x.come i 0 ≡ times i x.order = h.come.each i (slice_get_within lines i l stands) in
    let number : get_or x.numbers a 0 ≡ lines_made_by (actor_of l.entry) (notes_at lines x.order) = ap (λ n. get_or x.numbers n 0) a_is ∙ h.numbers.each (actor_of l.entry) (actor_below s lines i l are stands) in
    let position : get_or x.positions p 0 ≡ lines_in_place s (place_index s l.place) (notes_at lines x.order) = ap (λ n. get_or x.positions n 0) p_is ∙ h.positions.each (place_index s l.place) (place_below s lines i l are stands) in
    let rank : get_or ranks i 0 ≡ lines_in_place s (place_index s l.place) (take i lines) = r.each i l stands in
    rw (come, number, position, rank) refl

pub next_read : (s : Script) (lines : List Line) (x : Merge) (ranks : List ℕ) (i a p : ℕ) (l : Line) (come numbers positions rs : List ℕ) → IsMerging s lines x → AreRanks s lines ranks → AreLinesOf s lines → slice_get lines i ≡ Some l → a ≡ actor_of l.entry → p ≡ place_index s l.place →
    come ≡ x.come → numbers ≡ x.numbers → positions ≡ x.positions → rs ≡ ranks →
    ((get_or come i 0 == 0) && ((l.number == get_or numbers a 0) && (get_or rs i 0 == get_or positions p 0))) ≡ comes_next s lines x.order i l
next_read s lines x ranks i a p l come numbers positions rs h r are stands a_is p_is e1 e2 e3 e4 = rw (e1, e2, e3, e4) (next_is s lines x ranks i a p l h r are stands a_is p_is)

-- a note may come where the test passes, and none where no line stands
pub may_is : (s : Script) (lines : List Line) (order : List ℕ) (i : ℕ) (l : Line) (b : Bool) → slice_get lines i ≡ Some l → b ≡ comes_next s lines order i l → IsTrue b ↔ MayCome s lines order i
may_is s lines order i l b stands is = (λ t. record { line = l; stands = stands; next = sym is ∙ t }, λ m. is ∙ subst (λ (n : Line). comes_next s lines order i n ≡ true) (one m.line l (sym m.stands ∙ stands)) m.next)
  where
    one : (m n : Line) → ◌≡◌ {A = Option Line} (Some m) (Some n) → m ≡ n
    one m n h = cc

pub may_not : (s : Script) (lines : List Line) (order : List ℕ) (i : ℕ) → slice_get lines i ≡ None → IsTrue false ↔ MayCome s lines order i
may_not s lines order i none = (λ t. cc, λ m. absurd (never m.line (sym m.stands ∙ none)))
  where
    never : (l : Line) → ◌≡◌ {A = Option Line} (Some l) None → ⊥
    never l h = cc

pub none_next : (s : Script) (lines : List Line) (order : List ℕ) (n : ℕ) → ((j : ℕ) → j < n → MayCome s lines order j → ⊥) → length lines ≤ n → (j : ℕ) → MayCome s lines order j → ⊥
none_next s lines order n h past j m = h j (omega (arith, slice_get_within lines j m.line m.stands)) m

-- at the end: nothing is left
pub whole : (s : Script) (lines : List Line) (x : Merge) → IsMerging s lines x → ((i : ℕ) → i < length x.come → 0 < get_or x.come i 0) → IsOrder s lines x.order
whole s lines x h all = record {
  merge = h.merge;
  once = λ i below. omega (arith, all i (omega (arith, below, h.come.long)), h.once i below, h.come.each i below);
}

-- or this is the first note that is
pub stuck : (s : Script) (lines : List Line) (x : Merge) (i line : ℕ) (l : Line) → IsMerging s lines x → ((j : ℕ) → MayCome s lines x.order j → ⊥) → i < length x.come → get_or x.come i 0 ≡ 0 → ((j : ℕ) → j < i → 0 < get_or x.come j 0) → slice_get lines i ≡ Some l → line ≡ l.line → IsStuck s lines line
stuck s lines x i line l h nothing inside zero_at below stands named = record {
  order = x.order;
  merge = h.merge;
  nothing = nothing;
  left = record {
    index = i;
    note = l;
    stands = stands;
    left = sym (h.come.each i (omega (arith, inside, h.come.long))) ∙ zero_at;
    first = λ j less. omega (arith, below j less, h.once j (omega (arith, inside, h.come.long)), h.come.each j (omega (arith, inside, h.come.long)));
    named = named;
  };
}

pub none_stuck : (s : Script) (lines : List Line) (line : ℕ) → IsStuck s lines line → (order : List ℕ) → IsOrder s lines order → ⊥
none_stuck s lines line h order whole = no_order s lines line h order whole

-- ---- ranks

pub no_ranks : (s : Script) → AreRanks s [] []
no_ranks s = record { long = refl; each = λ i l e. cc }

-- one line more
pub ranks_snoc : (s : Script) (above : List Line) (l : Line) (ranks : List ℕ) (c : ℕ) → AreRanks s above ranks → c ≡ lines_in_place s (place_index s l.place) above → AreRanks s (above ++ l ∷ []) (ranks ++ c ∷ [])
ranks_snoc s above l ranks c h is = record {
  long = length-append ranks (c ∷ []) ∙ (ap (λ n. n + 1) h.long ∙ sym (length-append above (l ∷ [])));
  each = λ j m at. elim (cases_lt j (length above)) [
    | inl front ↦ (let old : slice_get above j ≡ Some m = sym (get_front above l j front) ∙ at in
        let same : get_or (ranks ++ c ∷ []) j 0 ≡ get_or ranks j 0 = get_or_from_slice_get (ranks ++ c ∷ []) j (get_or ranks j 0) 0 (get_front ranks c j (omega (arith, front, h.long)) ∙ slice_get-get_or ranks j 0 (omega (arith, front, h.long))) in
        same ∙ (h.each j m old ∙ ap (lines_in_place s (place_index s m.place)) (sym (take-append-le j above (l ∷ []) (omega (arith, front))))))
    | inr end ↦ (let r = get_end above l m j end at in
        let last : get_or (ranks ++ c ∷ []) j 0 ≡ c = ap (λ n. get_or (ranks ++ c ∷ []) n 0) (r.0 ∙ sym h.long) ∙ get_or_from_slice_get (ranks ++ c ∷ []) (length ranks) c 0 (get_last ranks c) in
        let before : take j (above ++ l ∷ []) ≡ above = ap (λ n. take n (above ++ l ∷ [])) r.0 ∙ take-append_seam above (l ∷ []) in
        last ∙ (is ∙ subst (λ (n : Line). lines_in_place s (place_index s l.place) above ≡ lines_in_place s (place_index s n.place) (take j (above ++ l ∷ []))) (sym r.1) (ap (lines_in_place s (place_index s l.place)) (sym before))))
  ];
}

-- a place in the lines, and one more line
pub take_next : (lines : List Line) (i : ℕ) (l : Line) → slice_get lines i ≡ Some l → take (i + 1) lines ≡ take i lines ++ l ∷ []
take_next [] i l at = cc
take_next (x ∷ xs) zero l at = ap (λ n. n ∷ []) (one x l at)
  where
    one : (a b : Line) → ◌≡◌ {A = Option Line} (Some a) (Some b) → a ≡ b
    one a b h = cc
take_next (x ∷ xs) (suc i) l at = (let n : suc i + 1 ≡ suc (i + 1) = omega arith in ap (λ k. take k (x ∷ xs)) n ∙ ap (λ ys. x ∷ ys) (take_next xs i l at))

-- what the code keeps of the ranks of the first lines
pub record IsRanking (s : Script) (lines : List Line) (i : ℕ) (counts ranks : List ℕ) : Type 0 where
  pub counted : AreCountsBy (place_key s) (place_count s) (take i lines) counts
  pub ranked : AreRanks s (take i lines) ranks

pub ranking_none : (s : Script) (lines : List Line) (counts ranks : List ℕ) → counts ≡ replicate (place_count s) 0 → ranks ≡ [] → IsRanking s lines 0 counts ranks
ranking_none s lines counts ranks a b = record {
  counted = subst (AreCountsBy (place_key s) (place_count s) []) (sym a) (no_counts (place_key s) (place_count s));
  ranked = subst (AreRanks s []) (sym b) (no_ranks s);
}

pub ranking_more : (s : Script) (lines : List Line) (i p : ℕ) (l : Line) (counts ranks counts' ranks' : List ℕ) → IsRanking s lines i counts ranks → slice_get lines i ≡ Some l → p ≡ place_key s l → p < place_count s →
    ranks' ≡ ranks ++ get_or counts p 0 ∷ [] → counts' ≡ set counts p (get_or counts p 0 + 1) → IsRanking s lines (i + 1) counts' ranks'
ranking_more s lines i p l counts ranks counts' ranks' h at is below r c = record {
  counted = subst (λ (ls : List Line). AreCountsBy (place_key s) (place_count s) ls counts') (sym (take_next lines i l at)) (subst (AreCountsBy (place_key s) (place_count s) (take i lines ++ l ∷ [])) (sym c) (counted_more (place_key s) (place_count s) (take i lines) l counts p h.counted is below));
  ranked = subst (λ (ls : List Line). AreRanks s ls ranks') (sym (take_next lines i l at)) (subst (AreRanks s (take i lines ++ l ∷ [])) (sym r) (ranks_snoc s (take i lines) l ranks (get_or counts p 0) h.ranked (h.counted.each p below ∙ ap (λ n. lines_in_place s n (take i lines)) is)));
}

pub ranking_all : (s : Script) (lines : List Line) (i : ℕ) (counts ranks : List ℕ) → IsRanking s lines i counts ranks → length lines ≤ i → AreRanks s lines ranks
ranking_all s lines i counts ranks h past = subst (λ (ls : List Line). AreRanks s ls ranks) (take-past lines i past) h.ranked
  where
    take-past : {X : Type 0} (xs : List X) (n : ℕ) → length xs ≤ n → take n xs ≡ xs
    take-past [] zero h = refl
    take-past [] (suc n) h = refl
    take-past (x ∷ xs) zero h = absurd (omega arith)
    take-past (x ∷ xs) (suc n) h = ap (λ ys. x ∷ ys) (take-past xs n (omega arith))
