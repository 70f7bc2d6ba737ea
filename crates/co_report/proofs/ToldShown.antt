-- Notes that are told in the order of their positions are shown in the order in which they are told.
use Rattle.std.proofs.Common.{◌≡◌, ℕ, zero, suc, ◌+◌, ◌<◌, ◌≤◌, ◌==◌, Bool, true, false, cond, List, [], ◌∷◌, ◌++◌, map, length, get_or, refl, ap, sym, subst, ◌∙◌, arith, append_assoc, append-nil, length-append}
use Rattle.std.specs.Prelude.{Some}
use Rattle.std.specs.Option.{option_map}
use Rattle.std.specs.List.{AllByRecursion, filter, find, flat_map, filter_map, cons_option, range_with_len}
use Rattle.std.proofs.Math.Seq.{get_or-append_seam}
use Rattle.std.proofs.lemmas.Bool.Decides.{nat_tests}
use Rattle.std.proofs.lemmas.List.{map-append, length-map}
use Rattle.std.proofs.lemmas.List.Elements.{filter-append, filter_map-append}
use Rattle.std.proofs.lemmas.List.FromFn.{get_or-range_with_len}
use Rattle.co_object.specs.declared.Note.{Note}
use Rattle.co_object.specs.declared.Place.{Place}
use Rattle.co_object.specs.Lists.{same_place}
use Rattle.co_object.proofs.Places.{same_place-eq}
use Rattle.co_listener.specs.MadeNotes.{MadeNote, list_by, lists_by, made_in, IsInOrder}
use Rattle.co_print.specs.Histories.{Numbered, shown, shown_at, numbered_from, numbered_of, all_numbered_of, shown_history}
use Rattle.co_notes.specs.declared.reading.notes.NumberedEntry.{NumberedEntry}
use Rattle.co_report.specs.Sections.{count_by, told_in}
use Rattle.co_print.proofs.Numbering.{numbered}
use Rattle.co_print.proofs.Places.{same_itself}
use Rattle.co_report.proofs.SectionsWritten.{range-more}
use Rattle.co_report.proofs.ToldNotes.{filter-kept, filter-dropped, list-own, list-other, made-here, made-elsewhere, told-here, told-elsewhere}

-- ---- a note that is inserted

pub record Inserted (x : Numbered) (xs ys : List Numbered) : Type 0 where
  pub before : List Numbered
  pub after : List Numbered
  pub was : xs ≡ before ++ after
  pub is : ys ≡ before ++ x ∷ after

inserted-last : (x : Numbered) (zs ws : List Numbered) → Inserted x (zs ++ ws) ((zs ++ x ∷ []) ++ ws)
inserted-last x zs ws = record { before = zs; after = ws; was = refl; is = append_assoc zs (x ∷ []) ws }

inserted-behind : (x : Numbered) (zs xs ys : List Numbered) → Inserted x xs ys → Inserted x (zs ++ xs) (zs ++ ys)
inserted-behind x zs xs ys i = record {
  before = zs ++ i.before;
  after = i.after;
  was = ap (λ t. zs ++ t) i.was ∙ sym (append_assoc zs i.before i.after);
  is = ap (λ t. zs ++ t) i.is ∙ sym (append_assoc zs i.before (x ∷ i.after));
}

-- ---- the numbered notes of a place, after one note more

abbrev stands_at : Place → Numbered → Bool
stands_at p x = same_place x.note.place p

from-more : (k : ℕ) (ns : List Note) (n : Note) → numbered_from k (ns ++ n ∷ []) ≡ numbered_from k ns ++ numbered (k + length ns) n ∷ []
from-more k [] n = let e : k ≡ k + 0 = omega arith in ap (λ (j : ℕ). numbered j n ∷ []) e
from-more k (m ∷ ns) n =
    let e : (k + 1) + length ns ≡ k + suc (length ns) = omega arith in
    ap (λ t. numbered k m ∷ t) (from-more (k + 1) ns n ∙ ap (λ (j : ℕ). numbered_from (k + 1) ns ++ numbered j n ∷ []) e)

from-start : (ns : List Note) (n : Note) → numbered_from 0 (ns ++ n ∷ []) ≡ numbered_from 0 ns ++ numbered (length ns) n ∷ []
from-start ns n = let e : 0 + length ns ≡ length ns = omega arith in from-more 0 ns n ∙ ap (λ (j : ℕ). numbered_from 0 ns ++ numbered j n ∷ []) e

of-here : (p : Place) (ns : List Note) (n : Note) → same_place n.place p ≡ true → numbered_of p (ns ++ n ∷ []) ≡ numbered_of p ns ++ numbered (length ns) n ∷ []
of-here p ns n h = ap (filter (stands_at p)) (from-start ns n) ∙ filter-kept (stands_at p) (numbered_from 0 ns) (numbered (length ns) n) h

of-elsewhere : (p : Place) (ns : List Note) (n : Note) → same_place n.place p ≡ false → numbered_of p (ns ++ n ∷ []) ≡ numbered_of p ns
of-elsewhere p ns n h = ap (filter (stands_at p)) (from-start ns n) ∙ filter-dropped (stands_at p) (numbered_from 0 ns) (numbered (length ns) n) h

-- those of n actors, from actor i on
abbrev those_of : Place → List MadeNote → ℕ → ℕ → List Numbered
those_of p made i n = flat_map (numbered_of p) (map (list_by made) (range_with_len i n))

equal-test : (a b : ℕ) → a ≡ b → (a == b) ≡ true
equal-test a b h = grind (arith, nat_tests)

unequal-test : (a b : ℕ) → a < b → (a == b) ≡ false
unequal-test a b h = grind (arith, nat_tests)

test-equal : (a b : ℕ) → (a == b) ≡ true → a ≡ b
test-equal a b h = grind (arith, nat_tests)

test-unequal : (a b : ℕ) → (a == b) ≡ false → b ≤ a → b + 1 ≤ a
test-unequal a b h le = grind (arith, nat_tests)

module _ (p : Place) (made : List MadeNote) (m : MadeNote) where
  abbrev more : List MadeNote
  more = made ++ m ∷ []

  others-stay : (i n : ℕ) → m.actor < i → those_of p more i n ≡ those_of p made i n
  others-stay i zero h = refl
  others-stay i (suc n) h =
      ap (λ l. numbered_of p l ++ those_of p more (i + 1) n) (list-other made m i (unequal-test m.actor i h))
      ∙ ap (λ t. numbered_of p (list_by made i) ++ t) (others-stay (i + 1) n (omega (arith, h)))

  all-stay : (i n : ℕ) → same_place m.note.place p ≡ false → those_of p more i n ≡ those_of p made i n
  all-stay i zero h = refl
  all-stay i (suc n) h =
      ap (λ t. t ++ those_of p more (i + 1) n) (of_actor (m.actor == i) refl)
      ∙ ap (λ t. numbered_of p (list_by made i) ++ t) (all-stay (i + 1) n h)
    where
      of_actor : (b : Bool) → (m.actor == i) ≡ b → numbered_of p (list_by more i) ≡ numbered_of p (list_by made i)
      of_actor true own = ap (numbered_of p) (list-own made m i own) ∙ of-elsewhere p (list_by made i) m.note h
      of_actor false other = ap (numbered_of p) (list-other made m i other)

  one-inserted : (i n : ℕ) → same_place m.note.place p ≡ true → i ≤ m.actor → m.actor < i + n →
      Inserted (numbered (count_by made m.actor) m.note) (those_of p made i n) (those_of p more i n)
  one-inserted i zero h from below = absurd (omega (arith, from, below))
  one-inserted i (suc n) h from below = of_actor (m.actor == i) refl (λ next. one-inserted (i + 1) n h next (omega (arith, below))) where
    of_actor : (b : Bool) → (m.actor == i) ≡ b → (i + 1 ≤ m.actor → Inserted (numbered (count_by made m.actor) m.note) (those_of p made (i + 1) n) (those_of p more (i + 1) n)) →
        Inserted (numbered (count_by made m.actor) m.note) (those_of p made i (suc n)) (those_of p more i (suc n))
    of_actor true own rest =
        let same : m.actor ≡ i = test-equal m.actor i own in
        let here : numbered_of p (list_by more i) ≡ numbered_of p (list_by made i) ++ numbered (count_by made m.actor) m.note ∷ [] =
        ap (numbered_of p) (list-own made m i own)
        ∙ (of-here p (list_by made i) m.note h
        ∙ ap (λ (a : ℕ). numbered_of p (list_by made i) ++ numbered (count_by made a) m.note ∷ []) (sym same)) in
        let behind : those_of p more (i + 1) n ≡ those_of p made (i + 1) n = others-stay (i + 1) n (omega (arith, same)) in
        subst (λ ys. Inserted (numbered (count_by made m.actor) m.note) (those_of p made i (suc n)) ys)
        (sym (ap (λ t. t ++ those_of p more (i + 1) n) here ∙ ap (λ t. (numbered_of p (list_by made i) ++ numbered (count_by made m.actor) m.note ∷ []) ++ t) behind))
        (inserted-last (numbered (count_by made m.actor) m.note) (numbered_of p (list_by made i)) (those_of p made (i + 1) n))
    of_actor false other rest =
        subst (λ l. Inserted (numbered (count_by made m.actor) m.note) (those_of p made i (suc n)) (numbered_of p l ++ those_of p more (i + 1) n))
        (sym (list-other made m i other))
        (inserted-behind (numbered (count_by made m.actor) m.note) (numbered_of p (list_by made i)) (those_of p made (i + 1) n) (those_of p more (i + 1) n) (rest (test-unequal m.actor i other from)))

-- ---- a note at the next position is shown behind the others

abbrev AreBelow : ℕ → List Numbered → Type 0
AreBelow k xs = AllByRecursion (λ x. x.note.pos < k) xs

weaken : (k : ℕ) (xs : List Numbered) → AreBelow k xs → AreBelow (k + 1) xs
weaken k [] h = tt
weaken k (x ∷ xs) h = (omega (arith, h.0), weaken k xs h.1)

below-more : (k : ℕ) (x : Numbered) (bs as' : List Numbered) → x.note.pos ≡ k → AreBelow k (bs ++ as') → AreBelow (k + 1) (bs ++ x ∷ as')
below-more k x [] as' at h = (omega (arith, at), weaken k as' h)
below-more k x (b ∷ bs) as' at h = (omega (arith, h.0), below-more k x bs as' at h.1)

finds : (k : ℕ) (x : Numbered) (bs as' : List Numbered) → x.note.pos ≡ k → AreBelow k (bs ++ as') → find (λ y. y.note.pos == k) (bs ++ x ∷ as') ≡ Some x
finds k x [] as' at h = ap (λ (b : Bool). cond b (Some x) (find (λ y. y.note.pos == k) as')) (equal-test x.note.pos k at)
finds k x (b ∷ bs) as' at h =
    ap (λ (t : Bool). cond t (Some b) (find (λ y. y.note.pos == k) (bs ++ x ∷ as'))) (unequal-test b.note.pos k h.0)
    ∙ finds k x bs as' at h.1

above-test : (a b : ℕ) → b < a → (a == b) ≡ false
above-test a b h = grind (arith, nat_tests)

skips : (j : ℕ) (x : Numbered) (bs as' : List Numbered) → j < x.note.pos → find (λ y. y.note.pos == j) (bs ++ x ∷ as') ≡ find (λ y. y.note.pos == j) (bs ++ as')
skips j x [] as' h = ap (λ (b : Bool). cond b (Some x) (find (λ y. y.note.pos == j) as')) (above-test x.note.pos j h)
skips j x (b ∷ bs) as' h = ap (λ o. cond (b.note.pos == j) (Some b) o) (skips j x bs as' h)

first-ones : (x : Numbered) (bs as' : List Numbered) (a n : ℕ) → a + n ≤ x.note.pos → filter_map (shown_at (bs ++ x ∷ as')) (range_with_len a n) ≡ filter_map (shown_at (bs ++ as')) (range_with_len a n)
first-ones x bs as' a zero h = refl
first-ones x bs as' a (suc n) h =
    ap (λ o. cons_option (option_map shown o) (filter_map (shown_at (bs ++ x ∷ as')) (range_with_len (a + 1) n))) (skips a x bs as' (omega (arith, h)))
    ∙ ap (λ xs. cons_option (shown_at (bs ++ as') a) xs) (first-ones x bs as' (a + 1) n (omega (arith, h)))

length-more : (x : Numbered) (bs as' : List Numbered) → length (bs ++ x ∷ as') ≡ length (bs ++ as') + 1
length-more x [] as' = omega arith
length-more x (b ∷ bs) as' = omega (arith, length-more x bs as')

abbrev all_shown : List Numbered → List NumberedEntry
all_shown xs = filter_map (shown_at xs) (range_with_len 0 (length xs))

last-shown : (x : Numbered) (bs as' : List Numbered) → x.note.pos ≡ length (bs ++ as') → AreBelow (length (bs ++ as')) (bs ++ as') → all_shown (bs ++ x ∷ as') ≡ all_shown (bs ++ as') ++ shown x ∷ []
last-shown x bs as' at below =
    let k : ℕ = length (bs ++ as') in
    let e : 0 + k ≡ k = omega arith in
    let found : filter_map (shown_at (bs ++ x ∷ as')) (k ∷ []) ≡ shown x ∷ [] = ap (λ o. cons_option (option_map shown o) []) (finds k x bs as' at below) in
    ap (λ n. filter_map (shown_at (bs ++ x ∷ as')) (range_with_len 0 n)) (length-more x bs as')
    ∙ (ap (filter_map (shown_at (bs ++ x ∷ as'))) (range-more 0 k ∙ ap (λ j. range_with_len 0 k ++ j ∷ []) e)
    ∙ (filter_map-append (shown_at (bs ++ x ∷ as')) (range_with_len 0 k) (k ∷ [])
    ∙ (ap (λ t. t ++ filter_map (shown_at (bs ++ x ∷ as')) (k ∷ [])) (first-ones x bs as' 0 k (omega (arith, at)))
    ∙ ap (λ t. all_shown (bs ++ as') ++ t) found)))

-- ---- note by note

record Follows (n : ℕ) (p : Place) (made : List MadeNote) : Type 0 where
  count : length (all_numbered_of p (lists_by n made)) ≡ length (made_in made p)
  below : AreBelow (length (made_in made p)) (all_numbered_of p (lists_by n made))
  shows : all_shown (all_numbered_of p (lists_by n made)) ≡ told_in made p

no-notes : (p : Place) (i n : ℕ) → those_of p [] i n ≡ []
no-notes p i zero = refl
no-notes p i (suc n) = no-notes p (i + 1) n

at-first : (n : ℕ) (p : Place) → Follows n p []
at-first n p = record {
  count = ap length (no-notes p 0 n);
  below = subst (AreBelow 0) (sym (no-notes p 0 n)) tt;
  shows = ap all_shown (no-notes p 0 n);
}

goes-on : (n : ℕ) (p : Place) (made : List MadeNote) (m : MadeNote) → m.actor < n → m.note.pos ≡ length (made_in made m.note.place) → Follows n p made → Follows n p (made ++ m ∷ [])
goes-on n p made m actor at f = by_place (same_place m.note.place p) refl where
  elsewhere : same_place m.note.place p ≡ false → Follows n p (made ++ m ∷ [])
  elsewhere other =
      let stay : those_of p (made ++ m ∷ []) 0 n ≡ those_of p made 0 n = all-stay p made m 0 n other in
      let many : length (made_in made p) ≡ length (made_in (made ++ m ∷ []) p) = sym (ap length (made-elsewhere made m p other)) in record {
        count = ap length stay ∙ (f.count ∙ many);
        below = subst (λ xs. AreBelow (length (made_in (made ++ m ∷ []) p)) xs) (sym stay) (subst (λ k. AreBelow k (those_of p made 0 n)) many f.below);
        shows = ap all_shown stay ∙ (f.shows ∙ sym (told-elsewhere made m p other));
      }

  inserted : same_place m.note.place p ≡ true → Inserted (numbered (count_by made m.actor) m.note) (those_of p made 0 n) (those_of p (made ++ m ∷ []) 0 n) → Follows n p (made ++ m ∷ [])
  inserted own i =
      let y : Numbered = numbered (count_by made m.actor) m.note in
      let many : length (made_in (made ++ m ∷ []) p) ≡ length (made_in made p) + 1 = ap length (made-here made m p own) ∙ length-append (made_in made p) (m.note ∷ []) in
      let all : length (i.before ++ i.after) ≡ length (made_in made p) = ap length (sym i.was) ∙ f.count in
      let pos : m.note.pos ≡ length (made_in made p) = at ∙ ap (λ q. length (made_in made q)) (same_place-eq m.note.place p own) in
      let old : AreBelow (length (made_in made p)) (i.before ++ i.after) = subst (λ xs. AreBelow (length (made_in made p)) xs) i.was f.below in
      let last : all_shown (i.before ++ y ∷ i.after) ≡ all_shown (i.before ++ i.after) ++ shown y ∷ [] =
      last-shown y i.before i.after (pos ∙ sym all) (subst (λ k. AreBelow k (i.before ++ i.after)) (sym all) old) in record {
        count = ap length i.is ∙ (length-more y i.before i.after ∙ (ap (λ k. k + 1) all ∙ sym many));
        below = subst (λ xs. AreBelow (length (made_in (made ++ m ∷ []) p)) xs) (sym i.is)
            (subst (λ k. AreBelow k (i.before ++ y ∷ i.after)) (sym many) (below-more (length (made_in made p)) y i.before i.after pos old));
        shows = ap all_shown i.is ∙ (last ∙ (ap (λ xs. all_shown xs ++ shown y ∷ []) (sym i.was) ∙ (ap (λ xs. xs ++ shown y ∷ []) f.shows ∙ sym (told-here made m p own))));
      }

  by_place : (b : Bool) → same_place m.note.place p ≡ b → Follows n p (made ++ m ∷ [])
  by_place true own = inserted own (one-inserted p made m 0 n own (omega arith) (omega (arith, actor)))
  by_place false other = elsewhere other

-- ---- where the positions of each place count

abbrev note_of : MadeNote → Note
note_of m = m.note

abbrev pos_of : Note → ℕ
pos_of n = n.pos

abbrev stands_in : Place → Note → Bool
stands_in p n = same_place n.place p

parted : (before : List MadeNote) (m : MadeNote) (after : List MadeNote) → made_in (before ++ m ∷ after) m.note.place ≡ made_in before m.note.place ++ m.note ∷ made_in after m.note.place
parted before m after =
    let p : Place = m.note.place in
    ap (filter (stands_in p)) (map-append note_of before (m ∷ after))
    ∙ (filter-append (stands_in p) (map note_of before) (m.note ∷ map note_of after)
    ∙ ap (λ (b : Bool). made_in before p ++ cond b (m.note ∷ made_in after p) (made_in after p)) (same_itself p))

counted : (A : List Note) (n : Note) (B : List Note) → map pos_of (A ++ n ∷ B) ≡ range_with_len 0 (length (A ++ n ∷ B)) → n.pos ≡ length A
counted A n B order =
    let seam : get_or (map pos_of A ++ n.pos ∷ map pos_of B) (length (map pos_of A)) 0 ≡ n.pos = get_or-append_seam (map pos_of A) n.pos (map pos_of B) 0 in
    let at : get_or (map pos_of (A ++ n ∷ B)) (length A) 0 ≡ n.pos =
    ap (λ xs. get_or xs (length A) 0) (map-append pos_of A (n ∷ B)) ∙ (ap (λ k. get_or (map pos_of A ++ n.pos ∷ map pos_of B) k 0) (sym (length-map A pos_of)) ∙ seam) in
    let long : length A < length (A ++ n ∷ B) = omega (arith, length-append A (n ∷ B)) in
    let number : get_or (range_with_len 0 (length (A ++ n ∷ B))) (length A) 0 ≡ 0 + length A = get_or-range_with_len 0 (length (A ++ n ∷ B)) (length A) 0 long in
    sym at ∙ (ap (λ xs. get_or xs (length A) 0) order ∙ (number ∙ omega arith))

position : (before : List MadeNote) (m : MadeNote) (after : List MadeNote) → IsInOrder (before ++ m ∷ after) → m.note.pos ≡ length (made_in before m.note.place)
position before m after order =
    let p : Place = m.note.place in
    counted (made_in before p) m.note (made_in after p)
    (subst (λ ns. map pos_of ns ≡ range_with_len 0 (length ns)) (parted before m after) (order p))

all-follow : (n : ℕ) (p : Place) (before made : List MadeNote) → IsInOrder (before ++ made) → AllByRecursion (λ m. m.actor < n) made → Follows n p before → Follows n p (before ++ made)
all-follow n p before [] order actors f = subst (λ b. Follows n p b) (sym (append-nil before)) f
all-follow n p before (m ∷ made) order actors f =
    let next : (before ++ m ∷ []) ++ made ≡ before ++ m ∷ made = append_assoc before (m ∷ []) made in
    subst (λ b. Follows n p b) next
    (all-follow n p (before ++ m ∷ []) made (subst IsInOrder (sym next) order) actors.1 (goes-on n p before m actors.0 (position before m made order) f))

-- what a report shows of a place is what is told there
pub shown-as-told : (n : ℕ) (made : List MadeNote) (p : Place) → IsInOrder made → AllByRecursion (λ m. m.actor < n) made → shown_history (lists_by n made) p ≡ told_in made p
shown-as-told n made p order actors = let f : Follows n p made = all-follow n p [] made order actors (at-first n p) in f.shows
