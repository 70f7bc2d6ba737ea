-- The origins of a place's notes show its history: at each position stands the origin of the one note that is there.
use Rattle.std.proofs.Common.{◌≡◌, ℕ, suc, ◌+◌, ◌-◌, ◌<◌, ◌≤◌, true, inl, List, [], ◌∷◌, ◌++◌, map, length, get_or, take, drop, refl, ap, sym, subst, ◌∙◌, arith, get_or-drop, get_or-take, length-take, length-drop}
use Rattle.std.specs.Prelude.{Option, Some, None, IsSome, slice_range}
use Rattle.std.specs.List.{find, filter_map, cons_option, range_with_len}
use Rattle.std.specs.Option.{option_map}
use Rattle.co_object.specs.declared.Note.{Note}
use Rattle.co_object.specs.declared.Place.{Place}
use Rattle.co_object.specs.Lists.{same_place, all_notes_of, IsWellFormed}
use Rattle.co_object.proofs.Numbers.{same_number, same_itself}
use Rattle.co_object.proofs.Passing.{passing, count-passing}
use Rattle.co_program.specs.declared.Script.{Script}
use Rattle.co_print.specs.declared.order.Order.{Order}
use Rattle.co_print.specs.declared.origin.Origin.{Origin}
use Rattle.co_print.specs.Histories.{Numbered, shown, shown_at, shown_history, all_numbered_of}
use Rattle.co_notes.specs.declared.reading.notes.NumberedEntry.{NumberedEntry}
use Rattle.co_print.specs.Origins.{note_at, note_from, entries_from, origin_line, lines_from}
use Rattle.co_print.specs.Order.{place_index, starts_from, IsOfPart, location, note_behind, AreWritten, origins_in, ShowsHistories}
use Rattle.co_notes.specs.NoteTexts.{shown_words}
use Rattle.co_program.specs.Places.{place_exists, AllHavePlaces}
use Rattle.co_object.proofs.Members.{find-has}
use Rattle.co_print.proofs.ShownHistories.{histories_shown}
use Rattle.co_print.proofs.Numbering.{note_of, numbered, all-notes-of, has-note, Found, found}
use Rattle.co_print.proofs.Places.{same_index}
use Rattle.co_print.proofs.Starts.{length-starts, next-start, starts-upto, same-run}
use Rattle.co_print.proofs.Counted.{note-place, note-actor, ArePartCounts, is_at, passing-numbered}
use Rattle.co_print.proofs.Room.{of-part, in-part, pos-in-run}
use Rattle.co_print.proofs.Written.{nowhere}

-- what is shown of the note from an origin
abbrev shown_note : ℕ → Note → NumberedEntry
shown_note number note = record { number = number; entry = note.entry }

abbrev shown_from : List (List Note) → Origin → Option NumberedEntry
shown_from lists origin = option_map (shown_note origin.number) (note_from lists origin)

abbrev shown_in : List (List Note) → List Origin → List NumberedEntry
shown_in lists origins = filter_map (shown_from lists) origins

-- the note from an origin is what o has
record IsOf (lists : List (List Note)) (origin : Origin) (o : Option NumberedEntry) : Type 0 where
  this : NumberedEntry
  is : o ≡ Some this
  from : shown_from lists origin ≡ Some this

-- origins of what f gives, one by one
shown-are : (lists : List (List Note)) (f : ℕ → Option NumberedEntry) (d : Origin) (xs : List Origin) (k : ℕ)
    → ((j : ℕ) → j < length xs → IsOf lists (get_or xs j d) (f (k + j)))
    → shown_in lists xs ≡ filter_map f (range_with_len k (length xs))
shown-are lists f d [] k each = refl
shown-are lists f d (x ∷ xs) k each =
    let first : IsOf lists x (f (k + 0)) = each 0 (omega arith) in
    let here : f k ≡ Some first.this = (let none : k ≡ k + 0 = omega arith in ap f none) ∙ first.is in
    let rest : shown_in lists xs ≡ filter_map f (range_with_len (k + 1) (length xs)) =
    shown-are lists f d xs (k + 1) (λ j below. (let next : k + suc j ≡ (k + 1) + j = omega arith in subst (λ i. IsOf lists (get_or xs j d) (f i)) next (each (suc j) (omega (arith, below))))) in
    ap (λ o. cons_option o (shown_in lists xs)) first.from
    ∙ (ap (λ ls. first.this ∷ ls) rest
    ∙ ap (λ o. cons_option o (filter_map f (range_with_len (k + 1) (length xs)))) (sym here))

-- the lines and the entries of notes from origins are those of what is shown of them
lines-shown : (s : Script) (lists : List (List Note)) (xs : List Origin) → lines_from s lists xs ≡ map (shown_words s) (shown_in lists xs)
lines-shown s lists [] = refl
lines-shown s lists (x ∷ xs) = at_note (note_from lists x) (lines-shown s lists xs) where
  at_note : (o : Option Note) → lines_from s lists xs ≡ map (shown_words s) (shown_in lists xs)
      → origin_line s x.number o ++ lines_from s lists xs ≡ map (shown_words s) (cons_option (option_map (shown_note x.number) o) (shown_in lists xs))
  at_note None rest = rest
  at_note (Some note) rest = ap (λ ls. shown_words s (shown_note x.number note) ∷ ls) rest

entries-shown : (lists : List (List Note)) (xs : List Origin) → entries_from lists xs ≡ map (λ shown. shown.entry) (shown_in lists xs)
entries-shown lists [] = refl
entries-shown lists (x ∷ xs) = at_note (note_from lists x) (entries-shown lists xs) where
  at_note : (o : Option Note) → entries_from lists xs ≡ map (λ shown. shown.entry) (shown_in lists xs)
      → cons_option (option_map (λ note. note.entry) o) (entries_from lists xs) ≡ map (λ shown. shown.entry) (cons_option (option_map (shown_note x.number) o) (shown_in lists xs))
  at_note None rest = rest
  at_note (Some note) rest = ap (λ es. note.entry ∷ es) rest

record Given (o : Option Note) : Type 0 where
  note : Note
  is : o ≡ Some note

given : (o : Option Note) → IsSome o → Given o
given None some = cc
given (Some n) some = record { note = n; is = refl }

length-map : (xs : List Numbered) → length (map note_of xs) ≡ length xs
length-map [] = refl
length-map (x ∷ xs) = ap suc (length-map xs)

-- the order of a part, whose places have these numbers of notes
module _ (s : Script) (lists : List (List Note)) (first end : ℕ) (counts : List ℕ) (order : Order)
    (exist : AllHavePlaces s lists) (formed : IsWellFormed lists) (are : ArePartCounts s lists first end counts) (begin : order.starts ≡ starts_from 0 counts)
    (written : AreWritten s lists first order.starts order.origins.items (length lists) 0) where
  abbrev origins : List Origin
  origins = order.origins.items

  w : AreWritten s lists first (starts_from 0 counts) origins (length lists) 0
  w = subst (λ ss. AreWritten s lists first ss origins (length lists) 0) begin written

  -- where the notes of a place of the part begin
  abbrev start_at : ℕ → ℕ
  start_at i = get_or (starts_from 0 counts) i 0

  abbrev start_of : Place → ℕ
  start_of p = start_at (place_index s p - first)

  -- two places of one number are one
  index-of : (q p : Place) → place_exists s q ≡ true → place_exists s p ≡ true → same_place q p ≡ true → place_index s q ≡ place_index s p
  index-of q p hq hp same = same_number (place_index s q) (place_index s p) (same_index s q p hq hp ∙ same)

  place-of : (q p : Place) → place_exists s q ≡ true → place_exists s p ≡ true → place_index s q ≡ place_index s p → same_place q p ≡ true
  place-of q p hq hp same = sym (same_index s q p hq hp) ∙ same_itself (place_index s q) (place_index s p) same

  -- a place of the part
  module _ (p : Place) (hp : place_exists s p ≡ true) (from : first ≤ place_index s p) (upto : place_index s p < end) where
    of_part : IsOfPart first (starts_from 0 counts) (place_index s p)
    of_part = of-part s lists first end counts exist formed are (place_index s p) from upto

    -- the position of the place has a note
    is-taken : (pos : ℕ) → pos < length (all_notes_of p lists) → IsSome (note_behind lists origins (start_of p + pos))
    is-taken pos below =
        let some : 1 ≤ passing (is_at pos) (all_notes_of p lists) = omega (arith, formed.once p pos below, count-passing (is_at pos) (all_notes_of p lists)) in
        let f : Found p (is_at pos) lists = found p (is_at pos) lists some in
        let index : place_index s f.note.place ≡ place_index s p = index-of f.note.place p (note-place s lists f.actor f.number f.note exist f.at) hp f.here in
        let there : location s first (starts_from 0 counts) f.note ≡ start_of p + pos =
        ap (λ i. start_at (i - first) + f.note.pos) index ∙ ap (λ k. start_of p + k) (same_number f.note.pos pos f.passes) in
        subst (λ q. IsSome (note_behind lists origins q)) there
        (w.taken f.actor f.number f.note (inl (note-actor lists f.actor f.number f.note f.at)) f.at (subst (λ i. IsOfPart first (starts_from 0 counts) i) (sym index) of_part))

    -- the note that stands at a position of the place is that place's note at that position
    at-position : (pos : ℕ) (m : Note) → pos < length (all_notes_of p lists) → note_behind lists origins (start_of p + pos) ≡ Some m
        → IsOf lists (get_or origins (start_of p + pos) (nowhere lists)) (shown_at (all_numbered_of p lists) pos)
    at-position pos m below there =
        let o : Origin = get_or origins (start_of p + pos) (nowhere lists) in
        let at : note_at lists o.actor o.number ≡ Some m = there in
        let hm : place_exists s m.place ≡ true = note-place s lists o.actor o.number m exist at in
        let belongs = w.belong (start_of p + pos) m there in
        let run : start_of m.place + m.pos ≡ start_of p + pos = belongs.1 in
        let in_m : m.pos < get_or counts (place_index s m.place - first) 0 = pos-in-run s lists first end counts exist formed are o.actor o.number m at belongs.0 in
        let in_p : pos < get_or counts (place_index s p - first) 0 = omega (arith, below, are.each p hp from upto) in
        let offset : place_index s m.place - first ≡ place_index s p - first =
        same-run 0 counts (place_index s m.place - first) (place_index s p - first) m.pos pos
        (in-part s lists first end counts exist formed are (place_index s m.place) belongs.0) (in-part s lists first end counts exist formed are (place_index s p) of_part) in_m in_p run in
        let index : place_index s m.place ≡ place_index s p = omega (arith, offset, belongs.0.0, from) in
        let same : m.pos ≡ pos = omega (arith, run, ap start_at offset) in
        let one : passing (λ (x : Numbered). is_at pos x.note) (all_numbered_of p lists) ≡ 1 = passing-numbered p pos lists ∙ formed.once p pos below in
        let this : find (λ (x : Numbered). is_at pos x.note) (all_numbered_of p lists) ≡ Some (numbered o.number m) =
        find-has (λ (x : Numbered). is_at pos x.note) (numbered o.number m) (all_numbered_of p lists) one (same_itself m.pos pos same)
        (has-note p lists o.actor o.number m at (place-of m.place p hm hp index)) in record {
          this = shown (numbered o.number m);
          is = ap (option_map shown) this;
          from = ap (option_map (shown_note o.number)) there;
        }

    each-line : (pos : ℕ) → pos < length (all_notes_of p lists) → IsOf lists (get_or origins (start_of p + pos) (nowhere lists)) (shown_at (all_numbered_of p lists) pos)
    each-line pos below =
        let g : Given (note_behind lists origins (start_of p + pos)) = given _ (is-taken pos below) in
        at-position pos g.note below g.is

    -- the place's origins
    abbrev run : List Origin
    run = take (length (all_notes_of p lists)) (drop (start_of p) origins)

    run-shows : start_of p + length (all_notes_of p lists) ≤ length origins → shown_in lists run ≡ shown_history lists p
    run-shows room =
        let count : ℕ = length (all_notes_of p lists) in
        let long : length run ≡ count = omega (arith, length-take count (drop (start_of p) origins), length-drop (start_of p) origins, room) in
        let many : length run ≡ length (all_numbered_of p lists) = long ∙ (sym (ap length (all-notes-of p lists)) ∙ length-map (all_numbered_of p lists)) in
        shown-are lists (shown_at (all_numbered_of p lists)) (nowhere lists) run 0 (λ j below. (
        let inside : j < count = omega (arith, below, long) in
        let is : get_or run j (nowhere lists) ≡ get_or origins (start_of p + j) (nowhere lists) =
        get_or-take count (drop (start_of p) origins) j (nowhere lists) inside ∙ get_or-drop (start_of p) origins j (nowhere lists) in
        let zero_first : j ≡ 0 + j = omega arith in
        subst (λ k. IsOf lists (get_or run j (nowhere lists)) (shown_at (all_numbered_of p lists) k)) zero_first
        (subst (λ o. IsOf lists o (shown_at (all_numbered_of p lists) j)) (sym is) (each-line j inside))))
        ∙ ap (λ n. filter_map (shown_at (all_numbered_of p lists)) (range_with_len 0 n)) many

    place-shows : length origins ≡ get_or order.starts (length counts) 0 → shown_in lists (origins_in order (place_index s p - first)) ≡ shown_history lists p
    place-shows long =
        let i : ℕ = place_index s p - first in
        let below : i < length counts = in-part s lists first end counts exist formed are (place_index s p) of_part in
        let next : start_at (i + 1) ≡ start_at i + length (all_notes_of p lists) = next-start 0 counts i below ∙ ap (λ n. start_at i + n) (are.each p hp from upto) in
        let count : start_at (i + 1) - start_at i ≡ length (all_notes_of p lists) = omega (arith, next) in
        let room : start_at i + length (all_notes_of p lists) ≤ length origins =
        omega (arith, long, ap (λ ss. get_or ss (length counts) 0) begin, next, starts-upto 0 counts (i + 1) (length counts) (omega (arith, below)) (omega arith)) in
        ap (λ ss. shown_in lists (slice_range origins (get_or ss i 0) (get_or ss (i + 1) 0))) begin
        ∙ (ap (λ n. shown_in lists (take n (drop (start_at i) origins))) count
        ∙ run-shows room)

  abbrev origins_of : Place → List Origin
  origins_of p = origins_in order (place_index s p - first)

  pub shows-histories : length origins ≡ get_or order.starts (length counts) 0 → ShowsHistories s lists first end order
  shows-histories long = record {
    count = omega (arith, ap length begin, length-starts 0 counts, are.places);
    rises = λ i below. (
        let rise : start_at i ≤ start_at (i + 1) = starts-upto 0 counts i (i + 1) (omega arith) (omega (arith, below, are.places)) in
        omega (arith, rise, begins i, begins (i + 1)));
    within = λ i le. (
        let upto : start_at i ≤ start_at (length counts) = starts-upto 0 counts i (length counts) (omega (arith, le, are.places)) (omega arith) in
        omega (arith, upto, long, begins i, begins (length counts)));
    each = λ p hp from upto. (
        let all : shown_in lists (origins_of p) ≡ shown_history lists p = place-shows p hp from upto long in record {
          entries = entries-shown lists (origins_of p) ∙ (ap (λ xs. map (λ shown. shown.entry) xs) all ∙ histories_shown p lists);
          shows = lines-shown s lists (origins_of p) ∙ ap (λ xs. map (shown_words s) xs) all;
        });
  }
    where
      begins : (i : ℕ) → get_or order.starts i 0 ≡ start_at i
      begins i = ap (λ ss. get_or ss i 0) begin
