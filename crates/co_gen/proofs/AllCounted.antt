-- Before the first note, and at the end: the counts of the notes that were told are those of their lists.
use Rattle.std.proofs.Common.{◌≡◌, ℕ, zero, suc, ◌+◌, ◌<◌, ◌==◌, Bool, true, false, cond, List, [], ◌∷◌, ◌++◌, map, length, refl, ap, sym, ◌∙◌, arith, replicate}
use Rattle.std.specs.Prelude.{◌-◌, Option, sum_by}
use Rattle.std.specs.List.{AllByRecursion, filter, filter_map, cons_option, range_with_len}
use Rattle.std.proofs.lemmas.Bool.Decides.{nat_tests}
use Rattle.co_object.specs.declared.Entry.{Entry}
use Rattle.co_object.specs.declared.Note.{Note}
use Rattle.co_object.specs.declared.Place.{Place}
use Rattle.co_object.specs.declared.Place.TheVariants.{Timer}
use Rattle.co_object.specs.Fate.{Fate, Pending}
use Rattle.co_object.specs.Laws.OneFate.{is_fired}
use Rattle.co_object.specs.Lists.{same_place, callout_history, callout_entry}
use Rattle.co_listener.specs.MadeNotes.{MadeNote, IsInOrder, list_by, lists_by, notes_made, made_in}
use Rattle.co_program.specs.declared.Script.{Script}
use Rattle.co_program.specs.Actors.{actor_count}
use Rattle.co_program.specs.Runs.{actors_of}
use Rattle.co_print.specs.Histories.{shown}
use Rattle.co_notes.specs.declared.reading.notes.NumberedEntry.{NumberedEntry}
use Rattle.co_report.specs.Sections.{count_by, numbered_after}
use Rattle.co_print.proofs.ShownHistories.{histories_shown}
use Rattle.co_report.proofs.ToldShown.{shown-as-told}
use Rattle.co_gen.specs.declared.counts.Counts.{Counts}
use Rattle.co_gen.specs.Laws.{HaveLegalHistories}
use Rattle.co_gen.specs.declared.fates.ToFire.TheVariants.{Nothing}
use Rattle.co_gen.specs.Soak.{is_superseded, is_stopped, armings, with_fate, counts_of}
use Rattle.co_gen.specs.Tally.{entries_in, to_fire_in, decided_in, at_end, AreFates}
use Rattle.co_gen.proofs.OneMoreCounted.{decided}
use Rattle.co_gen.proofs.Terms.{same-terms, one-larger, sum-mapped, zero-terms}
use Rattle.co_gen.proofs.Totals.{met, same-counts, fates-add-up}

abbrev no_counts : Counts
no_counts = record { notes = 0; armed = 0; fired = 0; superseded = 0; stopped = 0; pending = 0 }

-- ---- before the first note

no-entries : (f : List Entry → ℕ) (n : ℕ) → f [] ≡ 0 → 0 ≡ sum_by (λ i. f (entries_in [] i)) (range_with_len 0 n)
no-entries f n none = sym (zero-terms (λ i. f (entries_in [] i)) n (λ i. none))

pub nothing-counted : (s : Script) → AreFates s [] no_counts
nothing-counted s = record {
  notes = refl;
  armed = no-entries armings (length s.timers) refl;
  fired = no-entries (decided is_fired) (length s.timers) refl;
  superseded = no-entries (decided is_superseded) (length s.timers) refl;
  stopped = no-entries (decided is_stopped) (length s.timers) refl;
}

-- nothing is to fire
pub none-to-fire : (a n : ℕ) → replicate n Nothing ≡ map (to_fire_in []) (range_with_len a n)
none-to-fire a zero = refl
none-to-fire a (suc n) = ap (λ xs. Nothing ∷ xs) (none-to-fire (a + 1) n)

-- ---- the entries that are told are the history

entries-told : (place : Place) (before made : List MadeNote) → map (λ (x : NumberedEntry). x.entry) (map shown (filter (λ x. same_place x.note.place place) (numbered_after before made))) ≡ map (λ (n : Note). n.entry) (filter (λ (n : Note). same_place n.place place) (notes_made made))
entries-told place before [] = refl
entries-told place before (m ∷ made) = by_place (same_place m.note.place place) (entries-told place (before ++ m ∷ []) made) where
  by_place : (b : Bool) → map (λ (x : NumberedEntry). x.entry) (map shown (filter (λ x. same_place x.note.place place) (numbered_after (before ++ m ∷ []) made))) ≡ map (λ (n : Note). n.entry) (filter (λ (n : Note). same_place n.place place) (notes_made made))
      → map (λ (x : NumberedEntry). x.entry) (map shown (cond b (record { number = count_by before m.actor; note = m.note } ∷ filter (λ x. same_place x.note.place place) (numbered_after (before ++ m ∷ []) made)) (filter (λ x. same_place x.note.place place) (numbered_after (before ++ m ∷ []) made))))
      ≡ map (λ (n : Note). n.entry) (cond b (m.note ∷ filter (λ (n : Note). same_place n.place place) (notes_made made)) (filter (λ (n : Note). same_place n.place place) (notes_made made)))
  by_place true rest = ap (λ es. m.note.entry ∷ es) rest
  by_place false rest = rest

filter-mapped : {X Y Z : Type 0} (f : X → Y) (g : Y → Option Z) (xs : List X) → filter_map g (map f xs) ≡ filter_map (λ x. g (f x)) xs
filter-mapped f g [] = refl
filter-mapped f g (x ∷ xs) = ap (λ zs. cons_option (g (f x)) zs) (filter-mapped f g xs)

pub entries-are : (n : ℕ) (made : List MadeNote) (i : ℕ) → IsInOrder made → AllByRecursion (λ m. m.actor < n) made → entries_in made i ≡ callout_history i (lists_by n made)
entries-are n made i order actors =
    sym (filter-mapped (λ (note : Note). note.entry) callout_entry (made_in made (Timer i)))
    ∙ ap (filter_map callout_entry)
    (sym (entries-told (Timer i) [] made)
    ∙ (ap (map (λ (x : NumberedEntry). x.entry)) (sym (shown-as-told n made (Timer i) order actors))
    ∙ histories_shown (Timer i) (lists_by n made)))

-- ---- all notes

one-longer : (made : List MadeNote) (m : MadeNote) (a : ℕ) (b : Bool) → (m.actor == a) ≡ b → length (list_by (m ∷ made) a) ≡ length (list_by made a) + cond b 1 0
one-longer made m a b is = ap (λ (t : Bool). length (notes_made (cond t (m ∷ filter (λ x. x.actor == a) made) (filter (λ x. x.actor == a) made)))) is ∙ at_test b
  where
    at_test : (t : Bool) → length (notes_made (cond {A = List MadeNote} t (m ∷ filter (λ x. x.actor == a) made) (filter (λ x. x.actor == a) made))) ≡ length (list_by made a) + cond t 1 0
    at_test true = omega arith
    at_test false = omega arith

equal-test : (a b : ℕ) → a ≡ b → (a == b) ≡ true
equal-test a b h = grind (arith, nat_tests)

all-listed : (n : ℕ) (made : List MadeNote) → AllByRecursion (λ m. m.actor < n) made → sum_by (λ a. length (list_by made a)) (range_with_len 0 n) ≡ length made
all-listed n [] actors = zero-terms (λ a. length (list_by [] a)) n (λ a. refl)
all-listed n (m ∷ made) actors =
    let larger : sum_by (λ a. length (list_by (m ∷ made) a)) (range_with_len 0 n) ≡ sum_by (λ a. length (list_by made a)) (range_with_len 0 n) + 1 =
    one-larger (λ a. length (list_by made a)) (λ a. length (list_by (m ∷ made) a)) m.actor 1 n actors.0
    (one-longer made m m.actor true (equal-test m.actor m.actor refl))
    (λ a apart. one-longer made m a false (unequal m.actor a apart) ∙ none (length (list_by made a))) in
    omega (arith, larger, all-listed n made actors.1)
  where
    unequal : (x y : ℕ) → (y ≡ x → ⊥) → (x == y) ≡ false
    unequal x y h = grind (arith, nat_tests)

    none : (k : ℕ) → k + 0 ≡ k
    none k = omega arith

-- ---- the end

-- what the entries of all callouts decide is what became of the armings of their histories
decided-all : (s : Script) (lists : List (List Note)) (made : List MadeNote) → ((i : ℕ) → entries_in made i ≡ callout_history i lists) → HaveLegalHistories (actors_of s) s lists
    → (P : Fate → Bool) → P Pending ≡ false → decided_in P s made ≡ sum_by (with_fate P s lists) (range_with_len 0 (length s.timers))
decided-all s lists made same legal P no_end =
    same-terms (with_fate P s lists) (λ i. decided P (entries_in made i)) (length s.timers)
    (λ i below. ap (decided P) (same i) ∙ sym (met (actors_of s) s lists i (legal i below) P no_end))

-- each accepted arming has one fate
the-rest : (a f p t q : ℕ) → a ≡ f + p + t + q → a - f - p - t ≡ q
the-rest a f p t q h = omega (arith, h)

-- the counts at the end are those of the lists
pub counted-all : (s : Script) (made : List MadeNote) (c : Counts) → AllByRecursion (λ m. m.actor < actor_count s) made → AreFates s made c → IsInOrder made
    → HaveLegalHistories (actors_of s) s (lists_by (actor_count s) made) → at_end c ≡ counts_of s (lists_by (actor_count s) made)
unfolding counts_of
counted-all s made c actors h order legal =
    let lists : List (List Note) = lists_by (actor_count s) made in
    let end : Counts = counts_of s lists in
    let same : (i : ℕ) → entries_in made i ≡ callout_history i lists = λ i. entries-are (actor_count s) made i order actors in
    let armed : c.armed ≡ end.armed = h.armed ∙ same-terms (λ i. armings (callout_history i lists)) (λ i. armings (entries_in made i)) (length s.timers) (λ i below. ap armings (same i)) in
    let fired : c.fired ≡ end.fired = h.fired ∙ decided-all s lists made same legal is_fired refl in
    let superseded : c.superseded ≡ end.superseded = h.superseded ∙ decided-all s lists made same legal is_superseded refl in
    let stopped : c.stopped ≡ end.stopped = h.stopped ∙ decided-all s lists made same legal is_stopped refl in
    same-counts (at_end c) end
    (h.notes ∙ (sym (all-listed (actor_count s) made actors) ∙ sym (sum-mapped (list_by made) length (range_with_len 0 (actor_count s)))))
    armed fired superseded stopped
    (the-rest c.armed c.fired c.superseded c.stopped end.pending
    (omega (arith, fates-add-up (actors_of s) s lists legal, armed, fired, superseded, stopped)))
