-- One more note shows one more entry.
use Rattle.std.proofs.Common.{◌≡◌, ℕ, suc, ◌+◌, ◌<◌, ◌==◌, Bool, true, false, cond, List, [], ◌∷◌, ◌++◌, map, length, refl, sym, ap, subst, ◌∙◌, inl, inr, arith, length-append, length-set, append_assoc, ◌≤◌, eq-eqb, eqb-true}
use Rattle.std.specs.Prelude.{slice_index_or, slice_set, nat_lt}
use Rattle.std.specs.List.{AllByRecursion}
use Rattle.std.proofs.lemmas.Bool.Decides.{eqb_tells, nat_tests}
use Rattle.co_life.specs.Seen.{own, Extends}
use Rattle.co_object.specs.declared.Note.{Note}
use Rattle.co_object.specs.declared.Entry.{Entry}
use Rattle.co_object.specs.declared.QEntry.{QEntry}
use Rattle.co_object.specs.declared.Place.{Place}
use Rattle.co_object.specs.declared.AnyEntry.{AnyEntry}
use Rattle.co_object.specs.declared.Place.TheVariants as place
use Rattle.co_object.specs.declared.AnyEntry.TheVariants as entry
use Rattle.co_object.specs.Lists.{actor_of, notes_of, same_place}
use Rattle.co_program.specs.declared.Script.{Script}
use Rattle.co_program.specs.Places.{place_exists}
use Rattle.co_desk.specs.Views.{PassesView, IsPlace, seen_of, journal_seen}
use Rattle.co_desk.specs.Writes.{WritesAt, Writes}
use Rattle.co_desk.proofs.Items.{index_set, index_else}
use Rattle.co_desk.proofs.SameActor.{writes_keep}
use Rattle.co_object.specs.declared.OwnKind.{OwnKind}
use Rattle.co_program.specs.Actors.{actor_count}
use Rattle.co_run.specs.Told.{placed_from, owned}
use Rattle.co_run.specs.Shown.{AreTheseEntries, IsFoundThere, AreShown, AreSized}
use Rattle.co_run.proofs.shown.OwnEntries.{owned-more, placed-both}

pub alike_more : (notes : List Note) (ys : List (ℕ × AnyEntry)) (note : Note) (y : ℕ × AnyEntry) → AreTheseEntries notes ys → IsPlace note.pos y.0 → note.entry ≡ y.1 → AreTheseEntries (notes ++ note ∷ []) (ys ++ y ∷ [])
alike_more [] [] note y alike pos is = (pos, is, tt)
alike_more [] (x ∷ ys) note y alike pos is = absurd alike
alike_more (n ∷ notes) [] note y alike pos is = absurd alike
alike_more (n ∷ notes) (x ∷ ys) note y alike pos is = (alike.0, alike.1, alike_more notes ys note y alike.2 pos is)

pub all_one_more : {X : Type 0} (P : X → Type 0) (xs : List X) (x : X) → AllByRecursion P xs → P x → AllByRecursion P (xs ++ x ∷ [])
all_one_more P [] x all here = (here, tt)
all_one_more P (y ∷ xs) x all here = (all.0, all_one_more P xs x all.1 here)

-- ---- the notes of a place

pub notes_more : (at : Place) (notes : List Note) (note : Note) → notes_of at (notes ++ note ∷ []) ≡ notes_of at notes ++ cond (same_place note.place at) (note ∷ []) []
notes_more at [] note = refl
notes_more at (n ∷ notes) note = go (same_place n.place at) (notes_more at notes note) where
  go : (b : Bool) → notes_of at (notes ++ note ∷ []) ≡ notes_of at notes ++ cond (same_place note.place at) (note ∷ []) [] →
      cond b (n ∷ notes_of at (notes ++ note ∷ [])) (notes_of at (notes ++ note ∷ [])) ≡ cond b (n ∷ notes_of at notes) (notes_of at notes) ++ cond (same_place note.place at) (note ∷ []) []
  go true rest = ap (λ l. n ∷ l) rest
  go false rest = rest

no_more : {X : Type 0} (xs : List X) → xs ++ [] ≡ xs
no_more [] = refl
no_more (x ∷ xs) = ap (λ l. x ∷ l) (no_more xs)

notes_here : (at : Place) (notes : List Note) (note : Note) → same_place note.place at ≡ true → notes_of at (notes ++ note ∷ []) ≡ notes_of at notes ++ note ∷ []
notes_here at notes note is = notes_more at notes note ∙ ap (λ (b : Bool). notes_of at notes ++ cond b (note ∷ []) []) is

notes_else : (at : Place) (notes : List Note) (note : Note) → same_place note.place at ≡ false → notes_of at (notes ++ note ∷ []) ≡ notes_of at notes
notes_else at notes note is = notes_more at notes note ∙ (ap (λ (b : Bool). notes_of at notes ++ cond b (note ∷ []) []) is ∙ no_more (notes_of at notes))

-- ---- the entries of a kind of place among all

module _ {E : Type 0} (by : E → ℕ) (a : ℕ) (any : E → AnyEntry) (same : (e : E) → actor_of (any e) ≡ by e) where
  own_any : (xs : List E) → own by a xs ≡ [] → own actor_of a (map any xs) ≡ []
  own_any [] h = refl
  own_any (x ∷ xs) h = go (by x == a) refl (own_any xs) h where
    go : (b : Bool) → (by x == a) ≡ b → (own by a xs ≡ [] → own actor_of a (map any xs) ≡ []) → cond b (x ∷ own by a xs) (own by a xs) ≡ [] → own actor_of a (map any (x ∷ xs)) ≡ []
    go true is rest h = cc
    go false is rest h = ap (λ (b : Bool). cond b (any x ∷ own actor_of a (map any xs)) (own actor_of a (map any xs))) (ap (λ (n : ℕ). n == a) (same x) ∙ is) ∙ rest h

  map_both : (xs ys : List E) → map any (xs ++ ys) ≡ map any xs ++ map any ys
  map_both [] ys = refl
  map_both (x ∷ xs) ys = ap (λ l. any x ∷ l) (map_both xs ys)

  extends_any : (seen after : List E) (e : E) → Extends by a seen e after → Extends actor_of a (map any seen) (any e) (map any after)
  extends_any seen after e x = (
    map any x.0,
    own_any x.0 x.1,
    ap (map any) x.2 ∙ (map_both (seen ++ x.0) (e ∷ []) ∙ ap (λ l. l ++ any e ∷ []) (map_both seen x.0)),
  )

  length_map : (xs : List E) → length (map any xs) ≡ length xs
  length_map [] = refl
  length_map (x ∷ xs) = ap suc (length_map xs)

  -- what is owned after one more entry
  owned_one : (seen after : List E) (e : E) → Extends by a seen e after → by e ≡ a → (n : ℕ) × (n + 1 ≡ length after) × (owned actor_of a (map any after) ≡ owned actor_of a (map any seen) ++ (n, any e) ∷ [])
  unfolding extends_any
  owned_one seen after e x mine =
      let before : List E = seen ++ x.0 in
      let long : length (before ++ e ∷ []) ≡ length before + 1 = omega (arith, length-append before (e ∷ [])) in
      let count : length before + 1 ≡ length after = sym (ap length x.2 ∙ long) in
      let at : length (map any seen ++ map any x.0) ≡ length before = ap length (sym (map_both seen x.0)) ∙ length_map before in
      (length before, count, owned-more actor_of a (map any seen) (map any after) (any e) (extends_any seen after e x) (same e ∙ mine) ∙ ap (λ (n : ℕ). owned actor_of a (map any seen) ++ (n, any e) ∷ []) at)

  -- the notes of a place after one more
  alike_one : (at : Place) (notes : List Note) (note : Note) (seen after : List E) (e : E) → same_place note.place at ≡ true → note.entry ≡ any e → by e ≡ a → Extends by a seen e after →
      ((before : ℕ) → before + 1 ≡ length after → IsPlace note.pos before) → AreTheseEntries (notes_of at notes) (owned actor_of a (map any seen)) → AreTheseEntries (notes_of at (notes ++ note ∷ [])) (owned actor_of a (map any after))
  alike_one at notes note seen after e here is mine x pos alike =
      let one = owned_one seen after e x mine in
      subst (AreTheseEntries (notes_of at (notes ++ note ∷ []))) (sym one.2)
      (subst (λ (l : List Note). AreTheseEntries l (owned actor_of a (map any seen) ++ (one.0, any e) ∷ [])) (sym (notes_here at notes note here))
      (alike_more (notes_of at notes) (owned actor_of a (map any seen)) note (one.0, any e) alike (pos one.0 one.1) is))

  -- and of all places of its kind
  each_alike : (at : ℕ → Place) (notes : List Note) (note : Note) (lists : List (List E)) (k : ℕ) (after : List E) (e : E) → k < length lists →
      same_place note.place (at k) ≡ true → ((j : ℕ) → (j ≡ k → ⊥) → same_place note.place (at j) ≡ false) → note.entry ≡ any e → by e ≡ a → Extends by a (slice_index_or lists k []) e after →
      ((before : ℕ) → before + 1 ≡ length after → IsPlace note.pos before) →
      ((j : ℕ) → AreTheseEntries (notes_of (at j) notes) (owned actor_of a (map any (slice_index_or lists j [])))) →
      (j : ℕ) → AreTheseEntries (notes_of (at j) (notes ++ note ∷ [])) (owned actor_of a (map any (slice_index_or (slice_set lists k after) j [])))
  each_alike at notes note lists k after e below here else is mine x pos alike j =
      elim (eqb_tells j k) [
        | inl eq ↦ subst (λ (n : ℕ). AreTheseEntries (notes_of (at n) (notes ++ note ∷ [])) (owned actor_of a (map any (slice_index_or (slice_set lists k after) n [])))) (sym eq.1)
            (subst (λ (l : List E). AreTheseEntries (notes_of (at k) (notes ++ note ∷ [])) (owned actor_of a (map any l))) (sym (index_set lists k after [] below))
            (alike_one (at k) notes note (slice_index_or lists k []) after e here is mine x pos (alike k)))
        | inr other ↦ subst (λ (l : List Note). AreTheseEntries l (owned actor_of a (map any (slice_index_or (slice_set lists k after) j [])))) (sym (notes_else (at j) notes note (else j other.1)))
            (subst (λ (l : List E). AreTheseEntries (notes_of (at j) notes) (owned actor_of a (map any l))) (sym (index_else lists k j after [] other.1)) (alike j))
      ]

-- ---- a write

same_number : (n : ℕ) → (n == n) ≡ true
same_number n = eq-eqb n n refl

other_number : (n k : ℕ) → (n ≡ k → ⊥) → (k == n) ≡ false
other_number n k away = go (k == n) refl where
  go : (b : Bool) → (k == n) ≡ b → b ≡ false
  go true is = absurd (away (sym (eqb-true k n is)))
  go false is = refl

below_test : (n k : ℕ) → n < k → nat_lt n k ≡ true
below_test n k h = grind (arith, nat_tests)

module _ (s : Script) (a : ℕ) (notes : List Note) (made : ℕ) where
  shown_timer : (p q : PassesView) (i : ℕ) (e : Entry) (note : Note) → p.actor ≡ a → AreSized s p → note.place ≡ place.Timer i → note.entry ≡ entry.Timer e → WritesAt p (place.Timer i) (entry.Timer e) note.pos q →
      AreShown s a p notes made → AreShown s a q (notes ++ note ∷ []) made
  shown_timer p q i e note own sized at is w shown =
      let else_cpu : (j : ℕ) → same_place note.place (place.Cpu j) ≡ false = λ j. ap (λ (x : Place). same_place x (place.Cpu j)) at in
      let else_own : (j : ℕ) → same_place note.place (place.Actor j) ≡ false = λ j. ap (λ (x : Place). same_place x (place.Actor j)) at in
      let same_own : (j : ℕ) → notes_of (place.Actor j) (notes ++ note ∷ []) ≡ notes_of (place.Actor j) notes = λ j. notes_else (place.Actor j) notes note (else_own j) in
      let one = each_alike (λ (x : Entry). x.actor) a entry.Timer (λ (x : Entry). refl) place.Timer notes note p.timers i w.0 e w.1.below (ap (λ (x : Place). same_place x (place.Timer i)) at ∙ same_number i)
      (λ j away. ap (λ (x : Place). same_place x (place.Timer j)) at ∙ other_number j i away) is (w.1.adds.own ∙ own) (subst (λ (b : ℕ). Extends (λ (x : Entry). x.actor) b (seen_of p i) e w.0) own w.1.adds.extends) w.1.adds.place shown.timers in
      record {
        timers = λ j. subst (λ (v : PassesView). AreTheseEntries (notes_of (place.Timer j) (notes ++ note ∷ [])) (owned actor_of a (map entry.Timer (seen_of v j)))) (sym w.1.passes) (one j);
        cpus = λ j. subst (λ (v : PassesView). AreTheseEntries (notes_of (place.Cpu j) (notes ++ note ∷ [])) (owned actor_of a (map entry.Cpu (journal_seen v j)))) (sym w.1.passes)
            (subst (λ (l : List Note). AreTheseEntries l (owned actor_of a (map entry.Cpu (journal_seen p j)))) (sym (notes_else (place.Cpu j) notes note (else_cpu j))) (shown.cpus j));
        own = subst (λ (l : List Note). AreTheseEntries l (placed_from 0 (map (λ (n : Note). n.entry) l))) (sym (same_own a)) shown.own;
        count = shown.count ∙ ap length (sym (same_own a));
        others = λ b away. same_own b ∙ shown.others b away;
        places = all_one_more (λ (n : Note). place_exists s n.place ≡ true) notes note shown.places (ap (place_exists s) at ∙ below_test i (length s.timers) (let n = sized.timers in let m = w.1.below in omega arith));
        found = all_one_more (λ (n : Note). IsFoundThere n.entry) notes note shown.found (subst IsFoundThere (sym is) tt);
      }

  shown_cpu : (p q : PassesView) (i : ℕ) (e : QEntry) (note : Note) → p.actor ≡ a → AreSized s p → note.place ≡ place.Cpu i → note.entry ≡ entry.Cpu e → IsFoundThere note.entry → WritesAt p (place.Cpu i) (entry.Cpu e) note.pos q →
      AreShown s a p notes made → AreShown s a q (notes ++ note ∷ []) made
  shown_cpu p q i e note own sized at is found w shown =
      let else_timer : (j : ℕ) → same_place note.place (place.Timer j) ≡ false = λ j. ap (λ (x : Place). same_place x (place.Timer j)) at in
      let else_own : (j : ℕ) → same_place note.place (place.Actor j) ≡ false = λ j. ap (λ (x : Place). same_place x (place.Actor j)) at in
      let same_own : (j : ℕ) → notes_of (place.Actor j) (notes ++ note ∷ []) ≡ notes_of (place.Actor j) notes = λ j. notes_else (place.Actor j) notes note (else_own j) in
      let one = each_alike (λ (x : QEntry). x.actor) a entry.Cpu (λ (x : QEntry). refl) place.Cpu notes note p.cpus i w.0 e w.1.below (ap (λ (x : Place). same_place x (place.Cpu i)) at ∙ same_number i)
      (λ j away. ap (λ (x : Place). same_place x (place.Cpu j)) at ∙ other_number j i away) is (w.1.adds.own ∙ own) (subst (λ (b : ℕ). Extends (λ (x : QEntry). x.actor) b (journal_seen p i) e w.0) own w.1.adds.extends) w.1.adds.place shown.cpus in
      record {
        timers = λ j. subst (λ (v : PassesView). AreTheseEntries (notes_of (place.Timer j) (notes ++ note ∷ [])) (owned actor_of a (map entry.Timer (seen_of v j)))) (sym w.1.passes)
            (subst (λ (l : List Note). AreTheseEntries l (owned actor_of a (map entry.Timer (seen_of p j)))) (sym (notes_else (place.Timer j) notes note (else_timer j))) (shown.timers j));
        cpus = λ j. subst (λ (v : PassesView). AreTheseEntries (notes_of (place.Cpu j) (notes ++ note ∷ [])) (owned actor_of a (map entry.Cpu (journal_seen v j)))) (sym w.1.passes) (one j);
        own = subst (λ (l : List Note). AreTheseEntries l (placed_from 0 (map (λ (n : Note). n.entry) l))) (sym (same_own a)) shown.own;
        count = shown.count ∙ ap length (sym (same_own a));
        others = λ b away. same_own b ∙ shown.others b away;
        places = all_one_more (λ (n : Note). place_exists s n.place ≡ true) notes note shown.places (ap (place_exists s) at ∙ below_test i s.cpus (let n = sized.cpus in let m = w.1.below in omega arith));
        found = all_one_more (λ (n : Note). IsFoundThere n.entry) notes note shown.found found;
      }

  shown_at : (p q : PassesView) (at : Place) (e : AnyEntry) (note : Note) → p.actor ≡ a → AreSized s p → note.place ≡ at → note.entry ≡ e → IsFoundThere note.entry → WritesAt p at e note.pos q → AreShown s a p notes made → AreShown s a q (notes ++ note ∷ []) made
  shown_at p q (place.Timer i) (entry.Timer e) note own sized at is found w shown = shown_timer p q i e note own sized at is w shown
  shown_at p q (place.Cpu i) (entry.Cpu e) note own sized at is found w shown = shown_cpu p q i e note own sized at is found w shown
  shown_at p q (place.Timer i) (entry.Cpu e) note own sized at is found w shown = absurd w
  shown_at p q (place.Timer i) (entry.Own e) note own sized at is found w shown = absurd w
  shown_at p q (place.Cpu i) (entry.Timer e) note own sized at is found w shown = absurd w
  shown_at p q (place.Cpu i) (entry.Own e) note own sized at is found w shown = absurd w
  shown_at p q (place.Actor b) e note own sized at is found w shown = absurd w

sized_at : (s : Script) (p q : PassesView) (at : Place) (e : AnyEntry) (pos : ℕ) → WritesAt p at e pos q → AreSized s p → AreSized s q
sized_at s p q (place.Timer i) (entry.Timer e) pos w sized = record {
  timers = ap (λ (v : PassesView). length v.timers) w.1.passes ∙ (simp length-set sized.timers);
  cpus = ap (λ (v : PassesView). length v.cpus) w.1.passes ∙ sized.cpus;
}
sized_at s p q (place.Cpu i) (entry.Cpu e) pos w sized = record {
  timers = ap (λ (v : PassesView). length v.timers) w.1.passes ∙ sized.timers;
  cpus = ap (λ (v : PassesView). length v.cpus) w.1.passes ∙ (simp length-set sized.cpus);
}
sized_at s p q (place.Timer i) (entry.Cpu e) pos w sized = absurd w
sized_at s p q (place.Timer i) (entry.Own e) pos w sized = absurd w
sized_at s p q (place.Cpu i) (entry.Timer e) pos w sized = absurd w
sized_at s p q (place.Cpu i) (entry.Own e) pos w sized = absurd w
sized_at s p q (place.Actor b) e pos w sized = absurd w

-- the notes of a section
pub sized_all : (s : Script) (p q : PassesView) (ns : List Note) → Writes p ns q → AreSized s p → AreSized s q
sized_all s p q [] w sized = subst (AreSized s) (sym w) sized
sized_all s p q (note ∷ ns) w sized = sized_all s w.0 q ns w.2 (sized_at s p w.0 note.place note.entry note.pos w.1 sized)

pub shown_all : (s : Script) (a made : ℕ) (p q : PassesView) (notes ns : List Note) → p.actor ≡ a → AreSized s p → AllByRecursion (λ (n : Note). IsFoundThere n.entry) ns → Writes p ns q → AreShown s a p notes made → AreShown s a q (notes ++ ns) made
shown_all s a made p q notes [] own sized found w shown = subst (λ (v : PassesView). AreShown s a v (notes ++ []) made) (sym w) (subst (λ (l : List Note). AreShown s a p l made) (sym (no_more notes)) shown)
shown_all s a made p q notes (note ∷ ns) own sized found w shown =
    let first = shown_at s a notes made p w.0 note.place note.entry note own sized refl refl found.0 w.1 shown in
    let kept = (writes_keep p w.0 (note ∷ []) (w.0, w.1, refl)).actor in
    subst (λ (l : List Note). AreShown s a q l made) (append_assoc notes (note ∷ []) ns)
    (shown_all s a made w.0 q (notes ++ note ∷ []) ns (kept ∙ own) (sized_at s p w.0 note.place note.entry note.pos w.1 sized) found.1 w.2 first)

-- ---- a note of the actor's own

pub few_of : (at : Place) (notes : List Note) → length (notes_of at notes) ≤ length notes
few_of at [] = omega arith
few_of at (n ∷ notes) = go (same_place n.place at) (few_of at notes) where
  go : (b : Bool) → length (notes_of at notes) ≤ length notes → length (cond b (n ∷ notes_of at notes) (notes_of at notes)) ≤ suc (length notes)
  go true rest = omega arith
  go false rest = omega arith

place_is : (pos n : ℕ) → pos ≡ n → IsPlace pos n
place_is pos n is = (λ _. is, λ le. (omega (arith, is, le)))

pub shown_own : (s : Script) (a act made : ℕ) (kind : OwnKind) (p : PassesView) (notes : List Note) (note : Note) → a < actor_count s → note ≡ record { place = place.Actor a; pos = made; entry = entry.Own (record { actor = a; act = act; kind = kind }) } →
    AreShown s a p notes made → AreShown s a p (notes ++ note ∷ []) (made + 1)
shown_own s a act made kind p notes note below is shown =
    let at : note.place ≡ place.Actor a = ap (λ (n : Note). n.place) is in
    let mine : List Note = notes_of (place.Actor a) notes in
    let here : notes_of (place.Actor a) (notes ++ note ∷ []) ≡ mine ++ note ∷ [] = notes_here (place.Actor a) notes note (ap (λ (x : Place). same_place x (place.Actor a)) at ∙ same_number a) in
    let entries : List Note → List AnyEntry = map (λ (n : Note). n.entry) in
    let both : entries (mine ++ note ∷ []) ≡ entries mine ++ note.entry ∷ [] = map_append mine in
    let more : placed_from 0 (entries mine ++ note.entry ∷ []) ≡ placed_from 0 (entries mine) ++ (length mine, note.entry) ∷ [] =
    placed-both actor_of a 0 (entries mine) (note.entry ∷ []) ∙ ap (λ (n : ℕ). placed_from 0 (entries mine) ++ (n, note.entry) ∷ []) (count_entries mine) in
    let pos : note.pos ≡ length mine = ap (λ (n : Note). n.pos) is ∙ shown.count in
    record {
      timers = λ j. subst (λ (l : List Note). AreTheseEntries l (owned actor_of a (map entry.Timer (seen_of p j)))) (sym (notes_else (place.Timer j) notes note (ap (λ (x : Place). same_place x (place.Timer j)) at))) (shown.timers j);
      cpus = λ j. subst (λ (l : List Note). AreTheseEntries l (owned actor_of a (map entry.Cpu (journal_seen p j)))) (sym (notes_else (place.Cpu j) notes note (ap (λ (x : Place). same_place x (place.Cpu j)) at))) (shown.cpus j);
      own = subst (λ (l : List Note). AreTheseEntries l (placed_from 0 (entries l))) (sym here)
          (subst (λ (l : List (ℕ × AnyEntry)). AreTheseEntries (mine ++ note ∷ []) l) (sym (ap (placed_from 0) both ∙ more))
          (alike_more mine (placed_from 0 (entries mine)) note (length mine, note.entry) shown.own (place_is note.pos (length mine) pos) refl));
      count = (let c = shown.count in let l = ap length here in let k = length-append mine (note ∷ []) in omega (arith, c, l, k));
      others = λ b away. notes_else (place.Actor b) notes note (ap (λ (x : Place). same_place x (place.Actor b)) at ∙ other_number b a away) ∙ shown.others b away;
      places = all_one_more (λ (n : Note). place_exists s n.place ≡ true) notes note shown.places (ap (place_exists s) at ∙ below_test a (actor_count s) below);
      found = all_one_more (λ (n : Note). IsFoundThere n.entry) notes note shown.found (subst (λ (n : Note). IsFoundThere n.entry) (sym is) tt);
    } where
      map_append : (xs : List Note) → map (λ (n : Note). n.entry) (xs ++ note ∷ []) ≡ map (λ (n : Note). n.entry) xs ++ note.entry ∷ []
      map_append [] = refl
      map_append (x ∷ xs) = ap (λ l. x.entry ∷ l) (map_append xs)

      count_entries : (xs : List Note) → 0 + length (map (λ (n : Note). n.entry) xs) ≡ length xs
      count_entries [] = refl
      count_entries (x ∷ xs) = let rest = count_entries xs in omega (arith, rest)
