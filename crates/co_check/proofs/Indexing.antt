-- Before the first line no slot is taken, and no number has come.
use Rattle.std.proofs.Common.{◌≡◌, ◌≢◌, ℕ, zero, suc, ◌+◌, ◌<◌, ◌≤◌, ◌==◌, true, false, cond, inl, inr, set, get_or-set_same, get_or-set_other, List, [], ◌∷◌, ◌++◌, length, map, get_or, replicate, refl, ap, sym, subst, ◌∙◌, arith}
use Rattle.std.specs.Prelude.{Option, Some, None, Vec, slice_get}
use Rattle.std.specs.Option.{option_map}
use Rattle.std.proofs.lemmas.Bool.{cases_eq}
use Rattle.std.proofs.lemmas.Bool.Decides.{nat_tests}
use Rattle.std.proofs.lemmas.List.{length-replicate, length-set}
use Rattle.std.proofs.lemmas.List.Sums.{count_by-le-length}
use Rattle.std.proofs.lemmas.Option.{slice_get-map, slice_get_within, get_or_from_slice_get}
use Rattle.co_object.proofs.Passing.{passing, count-passing, passing-append}
use Rattle.co_program.specs.declared.script.Script.{Script}
use Rattle.co_program.specs.Actors.{actor_count}
use Rattle.co_print.specs.Order.{place_index, place_count}
use Rattle.co_check.specs.declared.index.Index.{Index}
use Rattle.co_report.specs.declared.line.Line.{Line}
use Rattle.co_check.specs.Index.{AreActorSlots, AreLatest, IsIndexed}
use Rattle.co_check.specs.Numbers.{AreActorCounts, lines_made_by}
use Rattle.co_check.specs.Shown.{actor_of, is_by}
use Rattle.co_check.proofs.Taking.{some-is}

copies-at : {X : Type 0} (n k : ℕ) (x : X) → k < n → slice_get (replicate n x) k ≡ Some x
copies-at zero k x h = absurd (omega arith)
copies-at (suc n) zero x h = refl
copies-at (suc n) (suc k) x h = copies-at n k x (omega arith)

zero-at : (n k : ℕ) → ◌≡◌ {A = ℕ} (get_or (replicate n 0) k 0) 0
zero-at zero k = refl
zero-at (suc n) zero = refl
zero-at (suc n) (suc k) = zero-at n k

length-mapped : {X Y : Type 0} (f : X → Y) (xs : List X) → length (map f xs) ≡ length xs
length-mapped f [] = refl
length-mapped f (x ∷ xs) = ap suc (length-mapped f xs)

mapped-read : {Y : Type 0} (f : ℕ → Y) (ns : List ℕ) (a : ℕ) (y : Y) → slice_get (map f ns) a ≡ Some y → (n : ℕ) × (slice_get ns a ≡ Some n) × (y ≡ f n)
mapped-read f [] a y h = cc
mapped-read f (n ∷ ns) zero y h = (n, refl, sym (some-is (f n) y h))
mapped-read f (n ∷ ns) (suc a) y h = mapped-read f ns a y h

copy-at : (n a m : ℕ) (k : ℕ) → slice_get (replicate n m) a ≡ Some k → k ≡ m
copy-at zero a m k h = cc
copy-at (suc n) zero m k h = sym (some-is m k h)
copy-at (suc n) (suc a) m k h = copy-at n a m k h

abbrev pub empty_slots : ℕ → List (Option ℕ)
empty_slots n = replicate n None

abbrev pub zeros : ℕ → List ℕ
zeros n = replicate n 0

pub opened-index : (s : Script) (lines : List Line) (counts widths : List ℕ) (x : Index) → length counts ≡ actor_count s → ((a : ℕ) → a < actor_count s → get_or counts a 0 ≡ lines_made_by a lines)
    → map (λ (row : Vec (Option ℕ) _). row.items) x.slots.items ≡ map empty_slots counts → widths ≡ replicate (place_count s) (actor_count s)
    → map (λ (row : Vec ℕ _). row.items) x.latest.items ≡ map zeros widths → IsIndexed s lines [] x
opened-index s lines counts widths x long each slots_are widths_are latest_are = record {
  actors = sym (length-mapped (λ (row : Vec (Option ℕ) _). row.items) x.slots.items) ∙ (ap length slots_are ∙ (length-mapped empty_slots counts ∙ long));
  places = sym (length-mapped (λ (row : Vec ℕ _). row.items) x.latest.items) ∙ (ap length latest_are ∙ (length-mapped zeros widths ∙ (ap length widths_are ∙ length-replicate (place_count s) (actor_count s))));
  slots = λ a row there. (let r = mapped-read empty_slots counts a row.items (at_slots a row there) in
      subst (AreActorSlots lines [] a) (sym r.2) (free a r.0 (sym (get_or_from_slice_get counts a r.0 0 r.1) ∙ each a (omega (arith, slice_get_within counts a r.0 r.1, long)))));
  latest = λ p row exists there. (let r = mapped-read zeros widths (place_index s p) row.items (at_latest (place_index s p) row there) in
      subst (AreLatest (actor_count s) [] p) (sym r.2) (low p r.0 (copy-at (place_count s) (place_index s p) (actor_count s) r.0 (ap (λ ns. slice_get ns (place_index s p)) (sym widths_are) ∙ r.1))));
}
  where
    at_slots : (a : ℕ) (row : Vec (Option ℕ) _) → slice_get x.slots.items a ≡ Some row → slice_get (map empty_slots counts) a ≡ Some row.items
    at_slots a row there = ap (λ rows. slice_get rows a) (sym slots_are) ∙ (slice_get-map (λ (r : Vec (Option ℕ) _). r.items) x.slots.items a ∙ ap (option_map (λ (r : Vec (Option ℕ) _). r.items)) there)

    at_latest : (a : ℕ) (row : Vec ℕ _) → slice_get x.latest.items a ≡ Some row → slice_get (map zeros widths) a ≡ Some row.items
    at_latest a row there = ap (λ rows. slice_get rows a) (sym latest_are) ∙ (slice_get-map (λ (r : Vec ℕ _). r.items) x.latest.items a ∙ ap (option_map (λ (r : Vec ℕ _). r.items)) there)

    free : (a n : ℕ) → n ≡ lines_made_by a lines → AreActorSlots lines [] a (empty_slots n)
    free a n h = record {
      count = length-replicate n None ∙ h;
      each = λ k below. copies-at n k None (omega (arith, below, h));
    }

    low : (p : _) (n : ℕ) → n ≡ actor_count s → AreLatest (actor_count s) [] p (zeros n)
    low p n h = record {
      count = length-replicate n 0 ∙ h;
      each = λ a below. zero-at n a;
    }

-- ---- counts

pub count-few : (actors : ℕ) (above : List Line) (counts : List ℕ) (a : ℕ) → AreActorCounts actors above counts → a < actors → get_or counts a 0 ≤ length above
count-few actors above counts a h below = omega (arith, h.each a below, count_by-le-length (is_by a) above)

-- one line more
count-own : (above : List Line) (x : Line) (a : ℕ) → is_by a x ≡ true → lines_made_by a (above ++ x ∷ []) ≡ lines_made_by a above + 1
count-own above x a own =
    let one : passing (is_by a) (x ∷ []) ≡ 1 = ap (λ b. cond b 1 0 + 0) own in
    omega (arith, one, passing-append (is_by a) above (x ∷ []), count-passing (is_by a) above, count-passing (is_by a) (above ++ x ∷ []))

count-other : (above : List Line) (x : Line) (a : ℕ) → is_by a x ≡ false → lines_made_by a (above ++ x ∷ []) ≡ lines_made_by a above
count-other above x a other =
    let none : passing (is_by a) (x ∷ []) ≡ 0 = ap (λ b. cond b 1 0 + 0) other in
    omega (arith, none, passing-append (is_by a) above (x ∷ []), count-passing (is_by a) above, count-passing (is_by a) (above ++ x ∷ []))

pub counted-more : (actors : ℕ) (above : List Line) (x : Line) (counts : List ℕ) (a n : ℕ) → AreActorCounts actors above counts → a ≡ actor_of x.entry → a < actors → n ≡ get_or counts a 0
    → AreActorCounts actors (above ++ x ∷ []) (set counts a (n + 1))
counted-more actors above x counts a n h is below count = record {
  long = length-set counts a (n + 1) ∙ h.long;
  each = λ b b_below. elim (cases_eq b a) [
    | inl same ↦ ap (λ m. get_or (set counts a (n + 1)) m 0) same ∙ (own ∙ ap (λ m. lines_made_by m (above ++ x ∷ [])) (sym same))
    | inr apart ↦ get_or-set_other counts a b (n + 1) 0 apart ∙ (h.each b b_below ∙ sym (count-other above x b (apart-is (actor_of x.entry) b (λ e. apart (sym e ∙ sym is)))))
  ];
}
  where
    equal : (m n : ℕ) → m ≡ n → (m == n) ≡ true
    equal m n h = grind (arith, nat_tests)

    apart-is : (m n : ℕ) → m ≢ n → (m == n) ≡ false
    apart-is m n h = grind (arith, nat_tests)

    own : get_or (set counts a (n + 1)) a 0 ≡ lines_made_by a (above ++ x ∷ [])
    own = get_or-set_same counts a (n + 1) 0 (omega (arith, below, h.long))
        ∙ (ap (λ m. m + 1) (count ∙ h.each a below)
        ∙ sym (count-own above x a (equal (actor_of x.entry) a (sym is))))
