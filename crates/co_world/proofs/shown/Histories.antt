-- The lists of notes show the world's histories.
use Rattle.std.proofs.lemmas.List.{append-nil}
use Rattle.std.proofs.Common.{◌≡◌, ℕ, zero, suc, ◌+◌, ◌≤◌, ◌<◌, Bool, true, false, cond, List, [], ◌∷◌, ◌++◌, length, map, refl, sym, ap, subst, ◌∙◌, arith, ◌⊎◌, ◌≢◌, inl, inr, append_assoc, Option, Some, None}
use Rattle.std.specs.Prelude.{slice_get, ◌==◌}
use Rattle.std.specs.List.{find, filter_map, flat_map, range_with_len, cons_option}
use Rattle.std.specs.Option.{option_map}
use Rattle.std.proofs.lemmas.Option.{slice_get_past}
use Rattle.std.proofs.lemmas.List.Elements.{filter-append}
use Rattle.std.proofs.lemmas.Bool.Decides.{eqb_tells}
use Rattle.co_object.specs.declared.Note.{Note}
use Rattle.co_object.specs.declared.AnyEntry.{AnyEntry}
use Rattle.co_object.specs.declared.Place.{Place}
use Rattle.co_object.specs.Lists.{same_place, notes_of, all_notes_of, entry_at, history}
use Rattle.co_world.specs.World.{updated}
use Rattle.co_world.proofs.basics.Updates.{updated_here, updated_elsewhere, at_updated}
use Rattle.co_world.proofs.basics.Prefixes.{length_more}

-- ---- one element more, somewhere in a list

pub record OneMore {X : Type 0} (old : List X) (new : X) (now : List X) : Type 0 where
  pub front : List X
  pub back : List X
  pub before : old ≡ front ++ back
  pub after : now ≡ front ++ new ∷ back

one_more_behind : {X : Type 0} (xs old now : List X) (new : X) → OneMore old new now → OneMore (xs ++ old) new (xs ++ now)
one_more_behind xs old now new h = record {
  front = xs ++ h.front;
  back = h.back;
  before = ap (λ k. xs ++ k) h.before ∙ sym (append_assoc xs h.front h.back);
  after = ap (λ k. xs ++ k) h.after ∙ sym (append_assoc xs h.front (new ∷ h.back));
}

one_more_between : {X : Type 0} (xs ys : List X) (new : X) → OneMore (xs ++ ys) new ((xs ++ new ∷ []) ++ ys)
one_more_between xs ys new = record { front = xs; back = ys; before = refl; after = append_assoc xs (new ∷ []) ys }

length_between : {X : Type 0} (xs ys : List X) (new : X) → length (xs ++ new ∷ ys) ≡ suc (length (xs ++ ys))
length_between [] ys new = refl
length_between (x ∷ xs) ys new = ap suc (length_between xs ys new)

find_other : {X : Type 0} (p : X → Bool) (xs ys : List X) (new : X) → p new ≡ false → find p (xs ++ new ∷ ys) ≡ find p (xs ++ ys)
find_other p [] ys new h = ap (λ b. cond b (Some new) (find p ys)) h
find_other p (x ∷ xs) ys new h = ap (cond (p x) (Some x)) (find_other p xs ys new h)

none_choice : {X : Type 0} (b : Bool) (x : X) (r : Option X) → cond b (Some x) r ≡ None → (b ≡ false) × (r ≡ None)
none_choice true x r h = cc
none_choice false x r h = (refl, h)

find_new : {X : Type 0} (p : X → Bool) (xs ys : List X) (new : X) → p new ≡ true → find p (xs ++ ys) ≡ None → find p (xs ++ new ∷ ys) ≡ Some new
find_new p [] ys new h none = ap (λ b. cond b (Some new) (find p ys)) h
find_new p (x ∷ xs) ys new h none =
    let apart : (p x ≡ false) × (find p (xs ++ ys) ≡ None) = none_choice (p x) x (find p (xs ++ ys)) none in
    ap (λ b. cond b (Some x) (find p (xs ++ new ∷ ys))) apart.0 ∙ find_new p xs ys new h apart.1

-- ---- lists by place

slice_get_more : {X : Type 0} (xs : List X) (x : X) (k : ℕ) → (k ≡ length xs → ⊥) → slice_get (xs ++ x ∷ []) k ≡ slice_get xs k
slice_get_more [] x zero h = absurd (h refl)
slice_get_more [] x (suc k) h = refl
slice_get_more (y ∷ ys) x zero h = refl
slice_get_more (y ∷ ys) x (suc k) h = slice_get_more ys x k (λ e. h (ap suc e))

slice_get_seam : {X : Type 0} (xs ys : List X) (x : X) → slice_get (xs ++ x ∷ ys) (length xs) ≡ Some x
slice_get_seam [] ys x = refl
slice_get_seam (y ∷ xs) ys x = slice_get_seam xs ys x

-- the notes show the entries: each at its position
pub record Shows (notes : List Note) (entries : List AnyEntry) : Type 0 where
  pub long : length notes ≡ length entries
  pub at : (pos : ℕ) → entry_at notes pos ≡ slice_get entries pos

map_none : {X Y : Type 0} (f : X → Y) (o : Option X) → option_map f o ≡ None → o ≡ None
map_none f None h = refl
map_none f (Some x) h = cc

pub shows_more : (old now : List Note) (note : Note) (entries : List AnyEntry) → OneMore old note now → note.pos ≡ length entries → Shows old entries → Shows now (entries ++ note.entry ∷ [])
shows_more old now note entries more here shown = record {
  long = let a : length now ≡ suc (length old) = ap length more.after ∙ length_between more.front more.back note ∙ ap (λ k. suc (length k)) (sym more.before) in
      let b = shown.long in
      let c = length_more entries note.entry in
      omega arith;
  at = λ pos. go pos (eqb_tells note.pos pos);
}
  where
    go : (pos : ℕ) → ((note.pos == pos) ≡ true) × (note.pos ≡ pos) ⊎ ((note.pos == pos) ≡ false) × (note.pos ≡ pos → ⊥) → entry_at now pos ≡ slice_get (entries ++ note.entry ∷ []) pos
    go pos (inl h) =
        let past : slice_get entries pos ≡ None = slice_get_past entries pos (omega (arith, h.1, here)) in
        let none : find (λ n. n.pos == pos) (more.front ++ more.back) ≡ None =
        map_none (λ n. n.entry) (find (λ n. n.pos == pos) (more.front ++ more.back)) (ap (λ k. entry_at k pos) (sym more.before) ∙ shown.at pos ∙ past) in
        ap (λ k. entry_at k pos) more.after
        ∙ ap (option_map (λ n. n.entry)) (find_new (λ n. n.pos == pos) more.front more.back note h.0 none)
        ∙ sym (ap (slice_get (entries ++ note.entry ∷ [])) (sym h.1 ∙ here) ∙ slice_get_seam entries [] note.entry)
    go pos (inr h) =
        ap (λ k. entry_at k pos) more.after
        ∙ ap (option_map (λ n. n.entry)) (find_other (λ n. n.pos == pos) more.front more.back note h.0)
        ∙ ap (λ k. entry_at k pos) (sym more.before)
        ∙ shown.at pos
        ∙ sym (slice_get_more entries note.entry pos (λ e. h.1 (here ∙ sym e)))

shown_rest : (f : ℕ → Option AnyEntry) (all front back : List AnyEntry) (k : ℕ) → front ++ back ≡ all → k ≡ length front → ((pos : ℕ) → f pos ≡ slice_get all pos) → filter_map f (range_with_len k (length back)) ≡ back
shown_rest f all front [] k is long at = refl
shown_rest f all front (y ∷ ys) k is long at =
    let here : f k ≡ Some y = at k ∙ ap (slice_get all) long ∙ ap (λ l. slice_get l (length front)) (sym is) ∙ slice_get_seam front ys y in
    ap (λ o. cons_option o (filter_map f (range_with_len (k + 1) (length ys)))) here
    ∙ ap (λ l. y ∷ l) (shown_rest f all (front ++ y ∷ []) ys (k + 1) (append_assoc front (y ∷ []) ys ∙ is) (ap (λ n. n + 1) long ∙ sym (length_more front y)) at)

-- what the notes show is their history
pub history_shown : (place : Place) (lists : List (List Note)) (entries : List AnyEntry) → Shows (all_notes_of place lists) entries → history place lists ≡ entries
history_shown place lists entries shown =
    ap (λ n. filter_map (entry_at (all_notes_of place lists)) (range_with_len 0 n)) shown.long
    ∙ shown_rest (entry_at (all_notes_of place lists)) entries [] entries 0 refl refl shown.at

-- ---- one actor makes a note

module _ (place : Place) (L : ℕ → List Note) (a : ℕ) (note : Note) where
  abbrev pub L' : ℕ → List Note
  L' = updated L a (L a ++ note ∷ [])

  pub notes_here : (b : Bool) → same_place note.place place ≡ b → notes_of place (L a ++ note ∷ []) ≡ notes_of place (L a) ++ cond b (note ∷ []) []
  notes_here b is = filter-append (λ n. same_place n.place place) (L a) (note ∷ []) ∙ ap (λ k. notes_of place (L a) ++ cond k (note ∷ []) []) is

  flat_beyond : (k n : ℕ) → a < k → flat_map (notes_of place) (map L' (range_with_len k n)) ≡ flat_map (notes_of place) (map L (range_with_len k n))
  flat_beyond k zero h = refl
  flat_beyond k (suc n) h =
      ap (λ x. notes_of place x ++ flat_map (notes_of place) (map L' (range_with_len (k + 1) n))) (updated_elsewhere L a (L a ++ note ∷ []) k (λ e. omega arith))
      ∙ ap (λ x. notes_of place (L k) ++ x) (flat_beyond (k + 1) n (omega arith))

  flat_at : (n : ℕ) → same_place note.place place ≡ true →
      OneMore (notes_of place (L a) ++ flat_map (notes_of place) (map L (range_with_len (a + 1) n))) note (notes_of place (L' a) ++ flat_map (notes_of place) (map L' (range_with_len (a + 1) n)))
  flat_at n is =
      let rest : List Note = flat_map (notes_of place) (map L (range_with_len (a + 1) n)) in
      let same : notes_of place (L' a) ++ flat_map (notes_of place) (map L' (range_with_len (a + 1) n)) ≡ (notes_of place (L a) ++ note ∷ []) ++ rest =
      ap (λ x. x ++ flat_map (notes_of place) (map L' (range_with_len (a + 1) n))) (ap (notes_of place) (updated_here L a (L a ++ note ∷ [])) ∙ notes_here true is)
      ∙ ap (λ r. (notes_of place (L a) ++ note ∷ []) ++ r) (flat_beyond (a + 1) n (omega arith)) in
      subst (λ (now : List Note). OneMore (notes_of place (L a) ++ rest) note now) (sym same) (one_more_between (notes_of place (L a)) rest note)

  pub flat_more : (k n : ℕ) → k ≤ a → a < k + n → same_place note.place place ≡ true →
      OneMore (flat_map (notes_of place) (map L (range_with_len k n))) note (flat_map (notes_of place) (map L' (range_with_len k n)))
  flat_more k zero low high is = absurd (omega arith)
  flat_more k (suc n) low high is =
      elim (eqb_tells k a) [
        | inl same ↦ subst (λ (j : ℕ). OneMore (notes_of place (L j) ++ flat_map (notes_of place) (map L (range_with_len (j + 1) n))) note (notes_of place (L' j) ++ flat_map (notes_of place) (map L' (range_with_len (j + 1) n)))) (sym same.1) (flat_at n is)
        | inr other ↦
            let low' : k + 1 ≤ a = (let ne : k ≢ a = other.1 in omega arith) in
            subst (λ (x : List Note). OneMore (notes_of place (L k) ++ flat_map (notes_of place) (map L (range_with_len (k + 1) n))) note (notes_of place x ++ flat_map (notes_of place) (map L' (range_with_len (k + 1) n))))
            (sym (updated_elsewhere L a (L a ++ note ∷ []) k other.1))
            (one_more_behind (notes_of place (L k)) (flat_map (notes_of place) (map L (range_with_len (k + 1) n))) (flat_map (notes_of place) (map L' (range_with_len (k + 1) n))) note (flat_more (k + 1) n low' (omega arith) is))
      ]

  flat_same_at : (b : ℕ) → same_place note.place place ≡ false → notes_of place (L' b) ≡ notes_of place (L b)
  flat_same_at b is = at_updated (λ j (x : List Note). notes_of place x ≡ notes_of place (L j)) L a (L a ++ note ∷ []) b (notes_here false is ∙ append-nil (notes_of place (L a))) refl

  pub flat_same : (k n : ℕ) → same_place note.place place ≡ false → flat_map (notes_of place) (map L' (range_with_len k n)) ≡ flat_map (notes_of place) (map L (range_with_len k n))
  flat_same k zero is = refl
  flat_same k (suc n) is =
      ap (λ x. x ++ flat_map (notes_of place) (map L' (range_with_len (k + 1) n))) (flat_same_at k is)
      ∙ ap (λ x. notes_of place (L k) ++ x) (flat_same (k + 1) n is)
