-- The sections and counts after one note more, before the first one, and as the parts of the report.
use Rattle.std.proofs.Common.{◌≡◌, ◌≢◌, ℕ, zero, suc, ◌+◌, ◌-◌, ◌<◌, ◌^◌, ◌==◌, nat_lt, Bool, true, false, cond, List, [], ◌∷◌, ◌++◌, map, length, set, get_or, replicate, refl, ap, sym, subst, ◌∙◌, arith, append-nil}
use Rattle.std.specs.List.{AllByRecursion, concat, filter, flat_map, range_with_len}
use Rattle.std.proofs.lemmas.Bool.Decides.{nat_tests}
use Rattle.std.proofs.lemmas.List.{set-append_left, set-append_right}
use Rattle.std.proofs.lemmas.List.Concat.{concat_is}
use Rattle.std.proofs.lemmas.List.FromFn.{length-range_with_len, length-map-range_with_len, get_or-range_with_len, get_or-map-range_with_len}
use Rattle.co_object.specs.declared.Note.{Note}
use Rattle.co_object.specs.declared.Place.{Place}
use Rattle.co_object.specs.declared.Place.TheVariants.{Timer, Cpu, Actor}
use Rattle.co_object.specs.Lists.{same_place}
use Rattle.co_object.proofs.Places.{same_place-eq}
use Rattle.co_listener.specs.MadeNotes.{MadeNote, list_by, lists_by, notes_made, IsInOrder}
use Rattle.co_program.specs.declared.Script.{Script}
use Rattle.co_program.specs.Actors.{actor_count}
use Rattle.co_program.specs.Places.{place_exists}
use Rattle.co_program.specs.Scripts.{IsScript}
use Rattle.co_text.specs.Lines.{line_text, text}
use Rattle.co_text.proofs.Spacing.{text_append}
use Rattle.co_print.specs.Histories.{shown_history}
use Rattle.co_notes.specs.NoteTexts.{note_words}
use Rattle.co_print.specs.Order.{place_index}
use Rattle.co_print.specs.Reports.{places, heading, place_lines, report, report_of, framed}
use Rattle.co_report.specs.Sections.{count_by, told_in, section, Written, HasRooms, NotesAreTold}
use Rattle.co_report.specs.Typed.{EntryTyped, ListsTyped}
use Rattle.co_print.proofs.Framed.{report-framed}
use Rattle.co_print.proofs.PlaceLists.{timers, wheels, actors, map-places, length-kind, at-place, length-places}
use Rattle.co_print.proofs.Places.{below, same_itself}
use Rattle.co_report.proofs.ToldNotes.{count-own, count-other, section-here, section-elsewhere}
use Rattle.co_report.proofs.ToldShown.{shown-as-told}

-- ---- one element of a mapped list that is written anew

module _ {X Y : Type 0} (g h : X → Y) where
  pub map-same : (ks : List X) (d : X) → ((j : ℕ) → j < length ks → h (get_or ks j d) ≡ g (get_or ks j d)) → map g ks ≡ map h ks
  map-same [] d same = refl
  map-same (k ∷ ks) d same =
      ap (λ y. y ∷ map g ks) (sym (same 0 (omega arith)))
      ∙ ap (λ ys. h k ∷ ys) (map-same ks d (λ j inside. same (suc j) (omega (arith, inside))))

  pub set-map : (ks : List X) (i : ℕ) (d : X) → i < length ks → ((j : ℕ) → j < length ks → j ≢ i → h (get_or ks j d) ≡ g (get_or ks j d)) → set (map g ks) i (h (get_or ks i d)) ≡ map h ks
  set-map [] i d inside same = absurd (omega (arith, inside))
  set-map (k ∷ ks) zero d inside same = ap (λ ys. h k ∷ ys) (map-same ks d (λ j in_ks. same (suc j) (omega (arith, in_ks)) (λ e. absurd (omega (arith, e)))))
  set-map (k ∷ ks) (suc i) d inside same =
      ap (λ y. y ∷ set (map g ks) i (h (get_or ks i d))) (sym (same 0 (omega arith) (λ e. absurd (omega (arith, e)))))
      ∙ ap (λ ys. h k ∷ ys) (set-map ks i d (omega (arith, inside)) (λ j in_ks ne. same (suc j) (omega (arith, in_ks)) (λ e. ne (omega (arith, e)))))

equal-test : (a b : ℕ) → a ≡ b → (a == b) ≡ true
equal-test a b h = grind (arith, nat_tests)

unequal-test : (a b : ℕ) → a ≢ b → (b == a) ≡ false
unequal-test a b h = grind (arith, nat_tests)

less-test : (a b : ℕ) → a < b → nat_lt a b ≡ true
less-test a b h = grind (arith, nat_tests)

-- ---- counts

pub counts-more : (made : List MadeNote) (m : MadeNote) (n number next : ℕ) (old : List ℕ) → m.actor < n → old ≡ map (count_by made) (range_with_len 0 n) → number ≡ get_or old m.actor number → next ≡ number + 1
    → (number ≡ count_by made m.actor) × (set old m.actor next ≡ map (count_by (made ++ m ∷ [])) (range_with_len 0 n))
counts-more made m n number next old actor was at more = (is, written) where
  is : number ≡ count_by made m.actor
  is = at ∙ (ap (λ xs. get_or xs m.actor number) was ∙ get_or-map-range_with_len (count_by made) 0 n m.actor m.actor number actor (omega arith))

  own : (k : ℕ) → k ≡ m.actor → count_by (made ++ m ∷ []) k ≡ count_by made m.actor + 1
  own k e = count-own made m k (equal-test m.actor k (sym e)) ∙ ap (λ a. count_by made a + 1) e

  other : (j k : ℕ) → k ≡ j → j ≢ m.actor → count_by (made ++ m ∷ []) k ≡ count_by made k
  other j k e ne = count-other made m k (unequal-test k m.actor (λ f. ne (sym e ∙ f)))

  value : next ≡ count_by (made ++ m ∷ []) (get_or (range_with_len 0 n) m.actor 0)
  value = more ∙ (ap (λ k. k + 1) is ∙ sym (own (get_or (range_with_len 0 n) m.actor 0) (get_or-range_with_len 0 n m.actor 0 actor ∙ omega arith)))

  long : length (range_with_len 0 n) ≡ n
  long = length-range_with_len 0 n

  written : set old m.actor next ≡ map (count_by (made ++ m ∷ [])) (range_with_len 0 n)
  written =
      ap (λ xs. set xs m.actor next) was
      ∙ (ap (λ v. set (map (count_by made) (range_with_len 0 n)) m.actor v) value
      ∙ set-map (count_by made) (count_by (made ++ m ∷ [])) (range_with_len 0 n) m.actor 0 (omega (arith, actor, long))
      (λ j inside ne. other j (get_or (range_with_len 0 n) j 0) (get_or-range_with_len 0 n j 0 (omega (arith, inside, long)) ∙ omega arith) ne))

-- ---- sections

-- those of one kind of places
module _ {Y : Type 0} (g h : Place → Y) (kind : ℕ → Place) (n : ℕ) where
  kind-at : (j : ℕ) (d : Place) → j < n → get_or (map kind (range_with_len 0 n)) j d ≡ kind j
  kind-at j d inside = get_or-map-range_with_len kind 0 n j j d inside (omega arith)

  kind-same : ((j : ℕ) → j < n → h (kind j) ≡ g (kind j)) → map g (map kind (range_with_len 0 n)) ≡ map h (map kind (range_with_len 0 n))
  kind-same same =
      map-same g h (map kind (range_with_len 0 n)) (kind 0) (λ j inside.
      (let in_range : j < n = omega (arith, inside, length-map-range_with_len kind 0 n) in
      let at = kind-at j (kind 0) in_range in ap h at ∙ (same j in_range ∙ ap g (sym at))))

  kind-set : (i : ℕ) → i < n → ((j : ℕ) → j ≢ i → h (kind j) ≡ g (kind j)) → set (map g (map kind (range_with_len 0 n))) i (h (kind i)) ≡ map h (map kind (range_with_len 0 n))
  kind-set i inside same =
      ap (λ p. set (map g (map kind (range_with_len 0 n))) i (h p)) (sym (kind-at i (kind 0) inside))
      ∙ set-map g h (map kind (range_with_len 0 n)) i (kind 0) (omega (arith, inside, length-map-range_with_len kind 0 n)) (λ j in_ks ne.
      (let at = kind-at j (kind 0) (omega (arith, in_ks, length-map-range_with_len kind 0 n)) in ap h at ∙ (same j ne ∙ ap g (sym at))))

-- those of the three kinds
module _ (s : Script) where
  module _ {Y : Type 0} (g h : Place → Y) where
    pub same-places : ((q : Place) → place_exists s q ≡ true → h q ≡ g q) → map g (places s) ≡ map h (places s)
    same-places same =
        map-places s g
        ∙ (ap (λ ys. ys ++ (map g (wheels s) ++ map g (actors s))) (kind-same g h Timer (length s.timers) (λ j in_range. same (Timer j) (less-test j (length s.timers) in_range)))
        ∙ (ap (λ ys. map h (timers s) ++ (ys ++ map g (actors s))) (kind-same g h Cpu s.cpus (λ j in_range. same (Cpu j) (less-test j s.cpus in_range)))
        ∙ (ap (λ ys. map h (timers s) ++ (map h (wheels s) ++ ys)) (kind-same g h Actor (actor_count s) (λ j in_range. same (Actor j) (less-test j (actor_count s) in_range)))
        ∙ sym (map-places s h))))

    -- a place is written anew, and the others are as they were
    pub set-place : (p : Place) → place_exists s p ≡ true → ((q : Place) → same_place p q ≡ false → h q ≡ g q) → set (map g (places s)) (place_index s p) (h p) ≡ map h (places s)
    set-place (Timer i) exists same =
        let inside : i < length s.timers = below i (length s.timers) exists in
        ap (λ ys. set ys i (h (Timer i))) (map-places s g)
        ∙ (set-append_left (map g (timers s)) (map g (wheels s) ++ map g (actors s)) i (h (Timer i)) (omega (arith, inside, length-kind s g Timer (length s.timers)))
        ∙ (ap (λ ys. ys ++ (map g (wheels s) ++ map g (actors s))) (kind-set g h Timer (length s.timers) i inside (λ j ne. same (Timer j) (unequal-test j i ne)))
        ∙ (ap (λ ys. map h (timers s) ++ (ys ++ map g (actors s))) (kind-same g h Cpu s.cpus (λ j in_range. same (Cpu j) refl))
        ∙ (ap (λ ys. map h (timers s) ++ (map h (wheels s) ++ ys)) (kind-same g h Actor (actor_count s) (λ j in_range. same (Actor j) refl))
        ∙ sym (map-places s h)))))
    set-place (Cpu c) exists same =
        let inside : c < s.cpus = below c s.cpus exists in
        let back : (length s.timers + c) - length s.timers ≡ c = omega arith in
        ap (λ ys. set ys (length s.timers + c) (h (Cpu c))) (map-places s g)
        ∙ (set-append_right (map g (timers s)) (map g (wheels s) ++ map g (actors s)) (length s.timers) (length s.timers + c) (h (Cpu c)) (length-kind s g Timer (length s.timers)) (omega arith)
        ∙ (ap (λ k. map g (timers s) ++ set (map g (wheels s) ++ map g (actors s)) k (h (Cpu c))) back
        ∙ (ap (λ ys. map g (timers s) ++ ys) (set-append_left (map g (wheels s)) (map g (actors s)) c (h (Cpu c)) (omega (arith, inside, length-kind s g Cpu s.cpus)))
        ∙ (ap (λ ys. map g (timers s) ++ (ys ++ map g (actors s))) (kind-set g h Cpu s.cpus c inside (λ j ne. same (Cpu j) (unequal-test j c ne)))
        ∙ (ap (λ ys. ys ++ (map h (wheels s) ++ map g (actors s))) (kind-same g h Timer (length s.timers) (λ j in_range. same (Timer j) refl))
        ∙ (ap (λ ys. map h (timers s) ++ (map h (wheels s) ++ ys)) (kind-same g h Actor (actor_count s) (λ j in_range. same (Actor j) refl))
        ∙ sym (map-places s h)))))))
    set-place (Actor a) exists same =
        let inside : a < actor_count s = below a (actor_count s) exists in
        let back : (length s.timers + s.cpus + a) - length s.timers ≡ s.cpus + a = omega arith in
        let again : (s.cpus + a) - s.cpus ≡ a = omega arith in
        ap (λ ys. set ys (length s.timers + s.cpus + a) (h (Actor a))) (map-places s g)
        ∙ (set-append_right (map g (timers s)) (map g (wheels s) ++ map g (actors s)) (length s.timers) (length s.timers + s.cpus + a) (h (Actor a)) (length-kind s g Timer (length s.timers)) (omega arith)
        ∙ (ap (λ k. map g (timers s) ++ set (map g (wheels s) ++ map g (actors s)) k (h (Actor a))) back
        ∙ (ap (λ ys. map g (timers s) ++ ys) (set-append_right (map g (wheels s)) (map g (actors s)) s.cpus (s.cpus + a) (h (Actor a)) (length-kind s g Cpu s.cpus) (omega arith))
        ∙ (ap (λ k. map g (timers s) ++ (map g (wheels s) ++ set (map g (actors s)) k (h (Actor a)))) again
        ∙ (ap (λ ys. map g (timers s) ++ (map g (wheels s) ++ ys)) (kind-set g h Actor (actor_count s) a inside (λ j ne. same (Actor j) (unequal-test j a ne)))
        ∙ (ap (λ ys. ys ++ (map g (wheels s) ++ map h (actors s))) (kind-same g h Timer (length s.timers) (λ j in_range. same (Timer j) refl))
        ∙ (ap (λ ys. map h (timers s) ++ (ys ++ map h (actors s))) (kind-same g h Cpu s.cpus (λ j in_range. same (Cpu j) refl))
        ∙ sym (map-places s h))))))))

-- ---- one note more

all-more : (P : MadeNote → Type 0) (made : List MadeNote) (m : MadeNote) → AllByRecursion P made → P m → AllByRecursion P (made ++ m ∷ [])
all-more P [] m all last = (last, tt)
all-more P (x ∷ made) m all last = (all.0, all-more P made m all.1 last)

all-set : (counts : List ℕ) (i n : ℕ) → AllByRecursion (λ count. count < 2 ^ 64) counts → n < 2 ^ 64 → AllByRecursion (λ count. count < 2 ^ 64) (set counts i n)
all-set [] i n all few = tt
all-set (c ∷ cs) zero n all few = (few, all.1)
all-set (c ∷ cs) (suc i) n all few = (all.0, all-set cs i n all.1 few)

all-zero : (n : ℕ) → AllByRecursion (λ count. count < 2 ^ 64) (replicate n 0)
all-zero zero = tt
all-zero (suc n) = (omega arith, all-zero n)

-- a place that the script has, and one that it hasn't
missing : (s : Script) (p q : Place) → place_exists s p ≡ false → place_exists s q ≡ true → same_place p q ≡ false
missing s p q none some = by_test (same_place p q) refl where
  by_test : (b : Bool) → same_place p q ≡ b → same_place p q ≡ false
  by_test true same = (let both : place_exists s p ≡ place_exists s q = ap (place_exists s) (same_place-eq p q same) in cc)
  by_test false other = other

module _ (s : Script) (made : List MadeNote) (m : MadeNote) (pages : List (List ℕ)) (counts : List ℕ) (number next : ℕ) where
  abbrev before : Written
  before = record { script = s; pages = pages; counts = counts }

  pub told-written : NotesAreTold before made → EntryTyped m.note.entry → next < 2 ^ 64 → m.actor < actor_count s → number ≡ get_or counts m.actor number → next ≡ number + 1 → (index : ℕ) (old new : List ℕ)
      → place_exists s m.note.place ≡ true → index ≡ place_index s m.note.place → old ≡ get_or pages index old → new ≡ old ++ line_text (note_words s number m.note.entry)
      → NotesAreTold (record { script = s; pages = set pages index new; counts = set counts m.actor next }) (made ++ m ∷ [])
  told-written told typed few actor at more index old new exists place at_old written =
      let p : Place = m.note.place in
      let counted = counts-more made m (actor_count s) number next counts actor told.counts at more in
      let was : old ≡ section s made p =
      at_old
      ∙ (ap (λ xs. get_or xs index old) told.pages
      ∙ (ap (λ k. get_or (map (section s made) (places s)) k old) place
      ∙ at-place s (section s made) p old exists)) in
      let now : new ≡ section s (made ++ m ∷ []) p =
      written
      ∙ (ap (λ t. t ++ line_text (note_words s number m.note.entry)) was
      ∙ (ap (λ k. section s made p ++ line_text (note_words s k m.note.entry)) counted.0
      ∙ sym (section-here s made m p (same_itself p)))) in record {
        actors = all-more (λ (x : MadeNote). x.actor < actor_count s) made m told.actors actor;
        typed = all-more (λ (x : MadeNote). EntryTyped x.note.entry) made m told.typed typed;
        few = all-set counts m.actor next told.few few;
        counts = counted.1;
        pages =
            ap (λ xs. set xs index new) told.pages
            ∙ (ap (λ k. set (map (section s made) (places s)) k new) place
            ∙ (ap (λ t. set (map (section s made) (places s)) (place_index s p) t) now
            ∙ set-place s (section s made) (section s (made ++ m ∷ [])) p exists (λ q other. section-elsewhere s made m q other)));
      }

  pub told-nowhere : NotesAreTold before made → EntryTyped m.note.entry → next < 2 ^ 64 → m.actor < actor_count s → number ≡ get_or counts m.actor number → next ≡ number + 1 → place_exists s m.note.place ≡ false
      → NotesAreTold (record { script = s; pages = pages; counts = set counts m.actor next }) (made ++ m ∷ [])
  told-nowhere told typed few actor at more none =
      let counted = counts-more made m (actor_count s) number next counts actor told.counts at more in record {
        actors = all-more (λ (x : MadeNote). x.actor < actor_count s) made m told.actors actor;
        typed = all-more (λ (x : MadeNote). EntryTyped x.note.entry) made m told.typed typed;
        few = all-set counts m.actor next told.few few;
        counts = counted.1;
        pages =
            told.pages
            ∙ same-places s (section s made) (section s (made ++ m ∷ [])) (λ q some. section-elsewhere s made m q (missing s m.note.place q none some));
      }

-- ---- before the first note

headings-alone : (s : Script) (ps : List Place) → map (λ p. line_text (heading s p)) ps ≡ map (section s []) ps
headings-alone s [] = refl
headings-alone s (p ∷ ps) = ap (λ t. t ∷ map (λ q. line_text (heading s q)) ps) (sym (append-nil (line_text (heading s p)))) ∙ ap (λ ts. section s [] p ∷ ts) (headings-alone s ps)

no-counts : (i n : ℕ) → replicate n 0 ≡ map (count_by []) (range_with_len i n)
no-counts i zero = refl
no-counts i (suc n) = ap (λ ns. 0 ∷ ns) (no-counts (i + 1) n)

pub nothing-told : (s : Script) (pages : List (List ℕ)) (counts : List ℕ) → pages ≡ map (λ p. line_text (heading s p)) (places s) → counts ≡ replicate (actor_count s) 0
    → NotesAreTold (record { script = s; pages = pages; counts = counts }) []
nothing-told s pages counts opened zeros = record {
  actors = tt;
  typed = tt;
  few = subst (AllByRecursion (λ (count : ℕ). count < 2 ^ 64)) (sym zeros) (all-zero (actor_count s));
  counts = zeros ∙ no-counts 0 (actor_count s);
  pages = opened ∙ headings-alone s (places s);
}

-- what is told has its rooms
pub told-rooms : (x : Written) (made : List MadeNote) → IsScript x.script → NotesAreTold x made → HasRooms x
told-rooms x made sound told = record {
  script = sound;
  pages = ap length told.pages ∙ length-places x.script (section x.script made);
  counts = ap length told.counts ∙ length-map-range_with_len (count_by made) 0 (actor_count x.script);
}

-- ---- the values of the lists

filter-typed : (a : ℕ) (made : List MadeNote) → AllByRecursion (λ (m : MadeNote). EntryTyped m.note.entry) made → AllByRecursion (λ (note : Note). EntryTyped note.entry) (list_by made a)
filter-typed a [] all = tt
filter-typed a (m ∷ ms) all = at_test (m.actor == a) (filter-typed a ms all.1) where
  at_test : (b : Bool) → AllByRecursion (λ (note : Note). EntryTyped note.entry) (list_by ms a) → AllByRecursion (λ (note : Note). EntryTyped note.entry) (notes_made (cond {A = List MadeNote} b (m ∷ filter (λ x. x.actor == a) ms) (filter (λ x. x.actor == a) ms)))
  at_test true rest = (all.0, rest)
  at_test false rest = rest

lists-typed : (made : List MadeNote) (n from : ℕ) → AllByRecursion (λ (m : MadeNote). EntryTyped m.note.entry) made → AllByRecursion (λ (count : ℕ). count < 2 ^ 64) (map (count_by made) (range_with_len from n)) → ListsTyped (map (list_by made) (range_with_len from n))
lists-typed made zero from typed few = tt
lists-typed made (suc n) from typed few = (record { entries = filter-typed from made typed; short = few.0 }, lists-typed made n (from + 1) typed few.1)

-- the values of what is told are those that types allow
pub told-typed : (x : Written) (made : List MadeNote) → NotesAreTold x made → ListsTyped (lists_by (actor_count x.script) made)
told-typed x made told = lists-typed made (actor_count x.script) 0 told.typed (subst (AllByRecursion (λ (count : ℕ). count < 2 ^ 64)) told.counts told.few)

-- ---- the whole report

joined : (s : Script) (made : List MadeNote) (ps : List Place) → flat_map (λ page. page) (map (section s made) ps) ≡ text (flat_map (place_lines s (told_in made)) ps)
joined s made [] = refl
joined s made (p ∷ ps) =
    ap (λ t. section s made p ++ t) (joined s made ps)
    ∙ sym (text_append (place_lines s (told_in made) p) (flat_map (place_lines s (told_in made)) ps))

pub whole-told : (x : Written) (made : List MadeNote) → NotesAreTold x made → IsInOrder made → framed x.script (flat_map (λ page. page) x.pages) ≡ report_of x.script (lists_by (actor_count x.script) made)
whole-told x made told order =
    let s : Script = x.script in
    let shown : told_in made ≡ shown_history (lists_by (actor_count s) made) = (λ d p. sym (shown-as-told (actor_count s) made p order told.actors) d) in
    ap (framed s) (ap (flat_map (λ page. page)) told.pages ∙ joined s made (places s))
    ∙ (sym (report-framed s (told_in made))
    ∙ ap (report s) shown)

pub pieces-told : (x y : Written) (made : List MadeNote) → x ≡ y → NotesAreTold x made → IsInOrder made → (q0 q1 q2 : List (List ℕ))
    → q0 ≡ [] → concat q1 ≡ concat q0 ++ concat y.pages → concat q2 ≡ framed y.script (concat q1) → concat q2 ≡ report_of x.script (lists_by (actor_count x.script) made)
pieces-told x y made same told order q0 q1 q2 e0 e1 e2 =
    e2
    ∙ (ap (framed y.script) (e1 ∙ ap (λ q. concat q ++ concat y.pages) e0)
    ∙ (ap (framed y.script) (concat_is y.pages)
    ∙ (ap (λ (z : Written). framed z.script (flat_map (λ page. page) z.pages)) (sym same)
    ∙ whole-told x made told order)))
