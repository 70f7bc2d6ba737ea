-- The lines of a legal report are the histories of a run.
use Rattle.std.proofs.Common.{◌≡◌, ℕ, zero, suc, ◌+◌, ◌<◌, ◌≤◌, ◌==◌, ◌||◌, Bool, true, false, cond, not, ◌⊎◌, inl, inr, List, [], ◌∷◌, map, take, length, refl, ap, sym, subst, ◌∙◌, arith}
use Rattle.std.specs.Prelude.{Option, Some, None, slice_get, option_and_then}
use Rattle.std.specs.List.{AllByRecursion, cons_option, filter_map, find, list_any, range_with_len}
use Rattle.std.specs.Option.{option_map}
use Rattle.std.proofs.lemmas.List.FromFn.{length-map-range_with_len}
use Rattle.std.proofs.lemmas.List.Sums.{length-filter}
use Rattle.std.proofs.lemmas.Option.{slice_get-map, slice_get_past, slice_get_within, slice_get-get_or}
use Rattle.co_object.specs.declared.QEntry.{QEntry}
use Rattle.co_object.specs.declared.QReply.TheVariants.{Off, Missing}
use Rattle.co_object.specs.declared.Op.{Op}
use Rattle.co_object.specs.declared.Op.TheVariants.{Call, Run}
use Rattle.co_object.specs.declared.Note.{Note}
use Rattle.co_object.specs.declared.Place.{Place}
use Rattle.co_object.specs.declared.Place.TheVariants as place
use Rattle.co_object.specs.declared.AnyEntry.{AnyEntry}
use Rattle.co_object.specs.declared.AnyEntry.TheVariants as of
use Rattle.co_object.specs.History.{IsLegal}
use Rattle.co_object.specs.Journal.{IsLegalQueue, reply_of, step}
use Rattle.co_object.specs.Lists.{same_place, all_notes_of, IsWellFormed}
use Rattle.co_object.proofs.Passing.{count-passing}
use Rattle.co_object.proofs.QueueChanges.{change}
use Rattle.co_program.specs.declared.action.Asked.TheVariants.{Callout, Queue, Itself}
use Rattle.co_program.specs.declared.script.Script.{Script}
use Rattle.co_program.specs.Action.{Action, Nothing, Silent, Take, Asks, action_for, spec_at}
use Rattle.co_program.specs.Actors.{actor_count, all_actors}
use Rattle.co_program.specs.Cursor.{Cursor, start_of}
use Rattle.co_program.specs.Follows.{Histories, Follows, Fits, FitsCallout, AreNext, goes_on, at_next_note}
use Rattle.co_program.specs.Places.{place_exists, HavePlaces, AllHavePlaces}
use Rattle.co_program.specs.Runs.{IsRunOf, actors_of, are_direct, notes_by, shown_histories}
use Rattle.co_report.specs.declared.line.Line.{Line}
use Rattle.co_print.specs.Histories.{shown_at, shown_history, all_numbered_of}
use Rattle.co_notes.specs.declared.reading.notes.NumberedEntry.{NumberedEntry}
use Rattle.co_print.specs.Origins.{note_at}
use Rattle.co_print.proofs.Counted.{note-actor}
use Rattle.co_object.proofs.Members.{Has, find-has}
use Rattle.co_print.proofs.ShownHistories.{histories_shown}
use Rattle.co_check.specs.declared.verdict.Verdict.{Verdict}
use Rattle.co_check.specs.declared.verdict.Verdict.TheVariants.{Legal}
use Rattle.co_check.specs.Astray.{by_actor, astray_of, is_unfinished, first_astray_of, or_later, cursor_after_lines}
use Rattle.co_check.specs.Asking.{is_nothing}
use Rattle.co_check.specs.Laws.{AreLegal}
use Rattle.co_check.specs.Lines.{AreLinesOf}
use Rattle.co_check.specs.Numbers.{lines_made_by, first_misnumbered}
use Rattle.co_check.specs.Programs.{IsOfProgram}
use Rattle.co_check.specs.Replay.{Bad, first_unfit, unfit_at, queue_after}
use Rattle.co_check.specs.Runs.{Show, IsLineOfNote, lines_in, shown_line, lines_at, LegalReportsAreOfRuns}
use Rattle.co_check.specs.Shown.{actor_of, is_note, cpu_journal, queue_entry_at}
use Rattle.co_check.specs.Verdict.{unless_bad, unless_astray, verdict_at_end, verdict_by_numbers, verdict_by_programs}
use Rattle.co_check.proofs.LegalHistories.{histories-legal, queue-may}
use Rattle.co_check.proofs.Nexts.{then-follows}
use Rattle.co_check.proofs.Pigeons.{IsNumbered, numbers-right, one-note, fine-behind}
use Rattle.co_check.proofs.Reformed.{of-script, as-many, well-formed}
use Rattle.co_check.proofs.Relisting.{Noted, noted_at, noted, note_numbered, list_by, lists_by, noted-get, noted-back, passing-noted, numbered-one, list-get, list-few, lists-get}
use Rattle.co_check.proofs.Removing.{AsksNoRemove, IsNoRemove, never_removes, not_missing}
use Rattle.co_check.proofs.Reported.{filter-index, shown-note, length-range, length-numbered, history-get, callouts-of, queues-of}
use Rattle.co_check.proofs.SameValues.{equal, itself, first, second, all}
use Rattle.co_check.proofs.SeenNotes.{actor-seen}
use Rattle.co_check.proofs.Showing.{same-equal}
use Rattle.co_check.proofs.Taking.{some-is}

-- ---- what a Legal verdict says

not-bad : (o : Option Bad) (later : Verdict) → unless_bad o later ≡ Legal → (o ≡ None) × (later ≡ Legal)
not-bad None later h = (refl, h)
not-bad (Some bad) later h = cc

not-astray : (o : Option ℕ) (later : Verdict) → unless_astray o later ≡ Legal → (o ≡ None) × (later ≡ Legal)
not-astray None later h = (refl, h)
not-astray (Some line) later h = cc

not-unfinished : (b : Bool) (end : ℕ) → verdict_at_end b end ≡ Legal → b ≡ false
not-unfinished false end h = refl
not-unfinished true end h = cc

later-none : (o later : Option ℕ) → or_later o later ≡ None → (o ≡ None) × (later ≡ None)
later-none None later h = (refl, h)
later-none (Some line) later h = cc

none-wrong : (wrong : ℕ → Option ℕ) (n from : ℕ) → first_astray_of wrong (range_with_len from n) ≡ None → (k : ℕ) → k < n → wrong (from + k) ≡ None
none-wrong wrong zero from h k below = absurd (omega (arith, below))
none-wrong wrong (suc n) from h zero below = ap wrong (start from) ∙ (later-none (wrong from) (first_astray_of wrong (range_with_len (from + 1) n)) h).0 where
  start : (m : ℕ) → m + 0 ≡ m
  start m = omega arith
none-wrong wrong (suc n) from h (suc k) below = ap wrong (next from k) ∙ none-wrong wrong n (from + 1) (later-none (wrong from) (first_astray_of wrong (range_with_len (from + 1) n)) h).1 k (omega (arith, below)) where
  next : (m j : ℕ) → m + suc j ≡ m + 1 + j
  next m j = omega arith

or-false : (b c : Bool) → (b || c) ≡ false → (b ≡ false) × (c ≡ false)
or-false false c h = (refl, h)
or-false true c h = cc

none-of : (p : ℕ → Bool) (n from : ℕ) → list_any p (range_with_len from n) ≡ false → (k : ℕ) → k < n → p (from + k) ≡ false
none-of p zero from h k below = absurd (omega (arith, below))
none-of p (suc n) from h zero below = ap p (start from) ∙ (or-false (p from) (list_any p (range_with_len (from + 1) n)) h).0 where
  start : (m : ℕ) → m + 0 ≡ m
  start m = omega arith
none-of p (suc n) from h (suc k) below = ap p (next from k) ∙ none-of p n (from + 1) (or-false (p from) (list_any p (range_with_len (from + 1) n)) h).1 k (omega (arith, below)) where
  next : (m j : ℕ) → m + suc j ≡ m + 1 + j
  next m j = omega arith

not-not : (b : Bool) → not b ≡ false → b ≡ true
not-not true h = refl
not-not false h = cc

-- ---- lists

has-at : {X : Type 0} (xs : List X) (j : ℕ) (x : X) → slice_get xs j ≡ Some x → Has x xs
has-at [] j x h = cc
has-at (y ∷ ys) zero x h = inl (some-is y x h)
has-at (y ∷ ys) (suc j) x h = inr (has-at ys j x h)

find-at : {X : Type 0} (p : X → Bool) (xs : List X) (x : X) → find p xs ≡ Some x → (i : ℕ) × (slice_get xs i ≡ Some x)
find-at p [] x h = cc
find-at p (y ∷ ys) x h = at_test (p y) h (λ rest. find-at p ys x rest) where
  at_test : (b : Bool) → cond {A = Option _} b (Some y) (find p ys) ≡ Some x → (find p ys ≡ Some x → (i : ℕ) × (slice_get ys i ≡ Some x)) → (i : ℕ) × (slice_get (y ∷ ys) i ≡ Some x)
  at_test true h later = (0, h)
  at_test false h later = let r = later h in (suc r.0, r.1)

all-found : {X : Type 0} (P : X → Type 0) (f : ℕ → Option X) (n from : ℕ) → ((k : ℕ) (x : X) → f k ≡ Some x → P x) → AllByRecursion P (filter_map f (range_with_len from n))
all-found P f zero from h = tt
all-found P f (suc n) from h = at_option (f from) refl (all-found P f n (from + 1) h) where
  at_option : (o : Option _) → f from ≡ o → AllByRecursion P (filter_map f (range_with_len (from + 1) n)) → AllByRecursion P (cons_option o (filter_map f (range_with_len (from + 1) n)))
  at_option None is rest = rest
  at_option (Some x) is rest = (h from x is, rest)

all-mapped : {X : Type 0} (P : X → Type 0) (f : ℕ → X) (n from : ℕ) → ((k : ℕ) → P (f k)) → AllByRecursion P (map f (range_with_len from n))
all-mapped P f zero from h = tt
all-mapped P f (suc n) from h = (h from, all-mapped P f n (from + 1) h)

alike : {X : Type 0} (xs ys : List X) → ((m : ℕ) → slice_get xs m ≡ slice_get ys m) → xs ≡ ys
alike [] [] h = refl
alike [] (y ∷ ys) h = let e = h 0 in cc
alike (x ∷ xs) [] h = let e = h 0 in cc
alike (x ∷ xs) (y ∷ ys) h = ap (λ z. z ∷ xs) (some-is x y (h 0)) ∙ ap (λ zs. y ∷ zs) (alike xs ys (λ m. h (suc m)))

mapped-none : {X Y : Type 0} (f : X → Y) (o : Option X) (y : Y) → option_map f o ≡ Some y → (x : X) × (o ≡ Some x) × (f x ≡ y)
mapped-none f None y h = cc
mapped-none f (Some x) y h = (x, refl, some-is (f x) y h)

-- ---- the lists that the lines show

module _ (s : Script) (lines : List Line) (of_script : AreLinesOf s lines) (right : (j : ℕ) (l : Line) → slice_get lines j ≡ Some l → IsNumbered lines j l) where
  formed : IsWellFormed (lists_by s lines)
  formed = well-formed s lines of_script right

  read-list : (a k : ℕ) → a < actor_count s → note_at (lists_by s lines) a k ≡ slice_get (list_by lines a) k
  read-list a k below = ap (option_and_then (λ (notes : List Note). slice_get notes k)) (lists-get s lines a below)

  -- a line's note has its number
  noted-line : (j : ℕ) (l : Line) → slice_get lines j ≡ Some l → note_at (lists_by s lines) (actor_of l.entry) l.number ≡ Some (noted_at (take j lines) l).note
  noted-line j l at =
      read-list (actor_of l.entry) l.number (of-script s lines of_script right j l at).actor
      ∙ (list-get lines right (actor_of l.entry) l.number (right j l at).below
      ∙ ap (option_map (λ (x : Noted). x.note))
      (find-has (λ (x : Noted). is_note (actor_of l.entry) l.number x.line) (noted_at (take j lines) l) (noted lines)
      (passing-noted (is_note (actor_of l.entry) l.number) [] lines ∙ one-note lines right (actor_of l.entry) l.number (right j l at).below)
      (all (actor_of l.entry == actor_of l.entry) (l.number == l.number) (itself (actor_of l.entry)) (itself l.number))
      (has-at (noted lines) j (noted_at (take j lines) l) (noted-get [] lines j l at))))

  each-line : (j : ℕ) (l : Line) → slice_get lines j ≡ Some l → (note : Note) × (note_at (lists_by s lines) (actor_of l.entry) l.number ≡ Some note) × IsLineOfNote lines j (actor_of l.entry) l.number l note
  each-line j l at = ((noted_at (take j lines) l).note, noted-line j l at, record { at = at; actor = refl; number_is = refl; place = refl; entry = refl; pos = refl })

  number-of : (a k : ℕ) (n : Note) → note_at (lists_by s lines) a k ≡ Some n → (k < lines_made_by a lines) × (note_numbered lines a k ≡ Some n)
  number-of a k n h =
      let inside : a < length (lists_by s lines) = note-actor (lists_by s lines) a k n h in
      let below : a < actor_count s = omega (arith, inside, length-map-range_with_len (list_by lines) 0 (actor_count s)) in
      let read = sym (read-list a k below) ∙ h in
      let few = list-few lines right a k n read in
      (few, sym (list-get lines right a k few) ∙ read)

  each-note : (a k : ℕ) (n : Note) → note_at (lists_by s lines) a k ≡ Some n → (j : ℕ) × (l : Line) × IsLineOfNote lines j a k l n
  each-note a k n h =
      let r = number-of a k n h in
      let one = numbered-one lines right a k r.0 in
      let back = noted-back [] lines one.index one.one one.at in
      let is : one.one.note ≡ n = some-is one.one.note n (sym (ap (option_map (λ (x : Noted). x.note)) one.found) ∙ r.1) in
      let by : is_note a k one.one.line ≡ true = one.passes in (
        one.index,
        one.one.line,
        record {
          at = back.at;
          actor = equal (actor_of one.one.line.entry) a (first (actor_of one.one.line.entry == a) (one.one.line.number == k) by);
          number_is = equal one.one.line.number k (second (actor_of one.one.line.entry == a) (one.one.line.number == k) by);
          place = sym (ap (λ (x : Noted). x.note.place) back.is) ∙ ap (λ (x : Note). x.place) is;
          entry = sym (ap (λ (x : Noted). x.note.entry) back.is) ∙ ap (λ (x : Note). x.entry) is;
          pos = sym (ap (λ (x : Noted). x.note.pos) back.is) ∙ ap (λ (x : Note). x.pos) is;
        },
      )

  shown-at : (p : Place) (m : ℕ) (l : Line) → slice_get (lines_at p lines) m ≡ Some l → slice_get (shown_history (lists_by s lines) p) m ≡ Some (shown_line l)
  shown-at p m l at =
      let st = filter-index (λ (x : Line). same_place x.place p) lines m l at in
      let place : l.place ≡ p = same-equal l.place p st.here in
      let pos : lines_in l.place (take st.index lines) ≡ m = ap (λ q. lines_in q (take st.index lines)) place ∙ (count-passing (λ (x : Line). same_place x.place p) (take st.index lines) ∙ st.above) in
      let within : m < length (all_notes_of p (lists_by s lines)) = omega (arith, as-many s lines of_script right p, slice_get_within (lines_at p lines) m l at, length-filter (λ (x : Line). same_place x.place p) lines, count-passing (λ (x : Line). same_place x.place p) lines) in
      history-get (lists_by s lines) p m formed within
      ∙ (ap (λ q. shown_at (all_numbered_of q (lists_by s lines)) m) (sym place)
      ∙ (ap (shown_at (all_numbered_of l.place (lists_by s lines))) (sym pos)
      ∙ shown-note (lists_by s lines) (actor_of l.entry) l.number (noted_at (take st.index lines) l).note formed (noted-line st.index l st.at)))

  pub shows : (p : Place) → map shown_line (lines_at p lines) ≡ shown_history (lists_by s lines) p
  shows p = alike (map shown_line (lines_at p lines)) (shown_history (lists_by s lines) p) at where
    at : (m : ℕ) → slice_get (map shown_line (lines_at p lines)) m ≡ slice_get (shown_history (lists_by s lines) p) m
    at m = slice_get-map shown_line (lines_at p lines) m ∙ go (slice_get (lines_at p lines) m) refl where
      go : (o : Option Line) → slice_get (lines_at p lines) m ≡ o → option_map shown_line o ≡ slice_get (shown_history (lists_by s lines) p) m
      go (Some l) is = sym (shown-at p m l is)
      go None is = sym (slice_get_past (shown_history (lists_by s lines) p) m
          (omega (arith, past (lines_at p lines) m is, length-range (shown_at (all_numbered_of p (lists_by s lines))) 0 (length (all_numbered_of p (lists_by s lines))), length-numbered p (lists_by s lines), as-many s lines of_script right p, length-filter (λ (x : Line). same_place x.place p) lines, count-passing (λ (x : Line). same_place x.place p) lines))) where
            past : (xs : List Line) (k : ℕ) → slice_get xs k ≡ None → length xs ≤ k
            past [] k h = omega arith
            past (x ∷ xs) zero h = cc
            past (x ∷ xs) (suc k) h = omega (arith, past xs k h)

  pub show : Show (lists_by s lines) lines
  show = record {
    callouts = λ i. sym (callouts-of _ (λ e. refl) (λ e. refl) (λ e. refl) i lines)
        ∙ ap (filter_map _) (ap (map (λ (x : NumberedEntry). x.entry)) (shows (place.Timer i)) ∙ histories_shown (place.Timer i) (lists_by s lines));
    cpus = λ cpu. sym (queues-of _ (λ e. refl) (λ e. refl) (λ e. refl) cpu lines)
        ∙ ap (filter_map _) (ap (map (λ (x : NumberedEntry). x.entry)) (shows (place.Cpu cpu)) ∙ histories_shown (place.Cpu cpu) (lists_by s lines));
    each_line = each-line;
    each_note = each-note;
  }

  place-of : (a k : ℕ) (n : Note) → note_numbered lines a k ≡ Some n → place_exists s n.place ≡ true
  place-of a k n h =
      let m = mapped-none (λ (x : Noted). x.note) (find (λ (x : Noted). is_note a k x.line) (noted lines)) n h in
      let f = find-at (λ (x : Noted). is_note a k x.line) (noted lines) m.0 m.1 in
      let back = noted-back [] lines f.0 m.0 f.1 in
      ap (place_exists s) (sym (ap (λ (x : Note). x.place) m.2) ∙ ap (λ (x : Noted). x.note.place) back.is) ∙ (of-script s lines of_script right f.0 m.0.line back.at).place

  pub places : AllHavePlaces s (lists_by s lines)
  places = all-mapped (HavePlaces s) (list_by lines) (actor_count s) 0
      (λ a. all-found (λ (n : Note). place_exists s n.place ≡ true) (note_numbered lines a) (lines_made_by a lines) 0 (λ k n h. place-of a k n h))

-- ---- no Remove is answered Missing

found-callout : (a act i : ℕ) (op : Op) (removed : Option ℕ) (cpu : ℕ) (e : QEntry) → FitsCallout a act i op removed (place.Cpu cpu) (of.Cpu e) → e.reply ≡ Off
found-callout a act i (Call op) removed cpu e (x, y) = ap (λ (v : QEntry). v.reply) y
found-callout a act i (Run op) removed cpu e h = absurd h

found-entry : (s : Script) (a : ℕ) (c : Cursor) (action : Action) (cpu : ℕ) (e : QEntry) → AsksNoRemove action → Fits a c action (place.Cpu cpu) (of.Cpu e) → (e.reply ≡ Off) ⊎ IsNoRemove e.op
found-entry s a c (Asks act (Callout i op)) cpu e none h = inl (found-callout a act i op c.removed cpu e h)
found-entry s a c (Asks act (Queue x op)) cpu e none (y, z) = inr (subst IsNoRemove (sym (ap (λ (v : QEntry). v.op) z)) none)
found-entry s a c (Asks act (Itself kind)) cpu e none h = absurd h
found-entry s a c Nothing cpu e none h = absurd h
found-entry s a c (Silent to) cpu e none h = absurd h
found-entry s a c (Take held to) cpu e none h = absurd h

next-found : (s : Script) (H : Histories) (a : ℕ) (c : Cursor) (notes : List Note) (k : ℕ) (n : Note) (cpu : ℕ) (e : QEntry) → AreNext s H a c notes → slice_get notes k ≡ Some n → n.place ≡ place.Cpu cpu → n.entry ≡ of.Cpu e → (e.reply ≡ Off) ⊎ IsNoRemove e.op
next-found s H a c [] k n cpu e h at p q = cc
next-found s H a c (x ∷ xs) zero n cpu e h at p q =
    let is : x ≡ n = some-is x n at in
    found-entry s a (at_next_note s a c) (action_for s a (at_next_note s a c)) cpu e (never_removes s a (at_next_note s a c))
    (subst (Fits a (at_next_note s a c) (action_for s a (at_next_note s a c)) (place.Cpu cpu)) (ap (λ (y : Note). y.entry) is ∙ q)
    (subst (λ (y : Place). Fits a (at_next_note s a c) (action_for s a (at_next_note s a c)) y x.entry) (ap (λ (y : Note). y.place) is ∙ p) h.0.fits))
next-found s H a c (x ∷ xs) (suc k) n cpu e h at p q = next-found s H a (goes_on s H (at_next_note s a c) x) xs k n cpu e h.1 at p q

-- ---- the run

legal-reply : (s : Script) (lines above : List Line) (cpu : ℕ) (e : QEntry) → unfit_at s above (place.Cpu cpu) (of.Cpu e) ≡ None → reply_of (step s.buckets (are_direct s) (queue_after s above cpu) e.op) ≡ Some e.reply
legal-reply s lines above cpu e h = (queue-may s cpu above e h).0

pub legal-reports : LegalReportsAreOfRuns
legal-reports s lines end of_script legal = (lists_by s lines, run, shows s lines of_script right) where
  parts : (first_misnumbered lines ≡ None) × (verdict_by_programs s lines end ≡ Legal)
  parts = not-bad (first_misnumbered lines) (verdict_by_programs s lines end) (not-bad (first_unfit s lines) (verdict_by_numbers s lines end) legal).1

  right : (j : ℕ) (l : Line) → slice_get lines j ≡ Some l → IsNumbered lines j l
  right = numbers-right lines (not-bad (first_misnumbered lines) (verdict_by_programs s lines end) (not-bad (first_unfit s lines) (verdict_by_numbers s lines end) legal).1).0

  histories : AreLegal s lines
  histories = histories-legal s lines end legal

  shown : Show (lists_by s lines) lines
  shown = show s lines of_script right

  many : length (lists_by s lines) ≡ actor_count s
  many = length-map-range_with_len (list_by lines) 0 (actor_count s)

  seen-list : (a : ℕ) → a < actor_count s → slice_get (lists_by s lines) a ≡ Some (notes_by (lists_by s lines) a)
  seen-list a below = slice_get-get_or (lists_by s lines) a [] (omega (arith, below, many))

  programs : (a : ℕ) → a < actor_count s → IsOfProgram s a (by_actor s lines a)
  programs a below = (
    ap (astray_of s lines) (sym (start a)) ∙ none-wrong (astray_of s lines) (actor_count s) 0 both.0 a below,
    not-not (is_nothing (action_for s a (at_next_note s a (cursor_after_lines s a (start_of s a) (by_actor s lines a)))))
        (ap (is_unfinished s lines) (sym (start a)) ∙ none-of (is_unfinished s lines) (actor_count s) 0 (not-unfinished (list_any (is_unfinished s lines) (all_actors s)) end both.1) a below),
  )
    where
      both : (first_astray_of (astray_of s lines) (all_actors s) ≡ None) × (verdict_at_end (list_any (is_unfinished s lines) (all_actors s)) end ≡ Legal)
      both = not-astray (first_astray_of (astray_of s lines) (all_actors s)) (verdict_at_end (list_any (is_unfinished s lines) (all_actors s)) end) parts.1

      start : (m : ℕ) → 0 + m ≡ m
      start m = omega arith

  follow : (a : ℕ) → a < actor_count s → Follows s (shown_histories (lists_by s lines)) a (notes_by (lists_by s lines) a)
  follow a below = then-follows s (shown_histories (lists_by s lines)) a (notes_by (lists_by s lines) a) (by_actor s lines a)
      (actor-seen s (lists_by s lines) lines (well-formed s lines of_script right) of_script (show s lines of_script right) a (notes_by (lists_by s lines) a) (seen-list a below)) (programs a below)

  -- each entry of a CPU's journal
  found-line : (j : ℕ) (l : Line) (cpu : ℕ) (e : QEntry) → slice_get lines j ≡ Some l → l.place ≡ place.Cpu cpu → l.entry ≡ of.Cpu e → e.reply ≡ Missing → ⊥
  found-line j l cpu e at p q missing =
      let r = each-line s lines of_script right j l at in
      let below : actor_of l.entry < actor_count s = (of-script s lines of_script right j l at).actor in
      let read = ap (option_and_then (λ (notes : List Note). slice_get notes l.number)) (sym (seen-list (actor_of l.entry) below)) ∙ r.1 in
      elim (next-found s (shown_histories (lists_by s lines)) (actor_of l.entry) (start_of s (actor_of l.entry)) (notes_by (lists_by s lines) (actor_of l.entry)) l.number r.0 cpu e
      (follow (actor_of l.entry) below).each read (sym r.2.place ∙ p) (sym r.2.entry ∙ q)) [
        | inl off ↦ (let clash : Off ≡ Missing = sym off ∙ missing in absurd (cc))
        | inr none ↦ not_missing s.buckets (are_direct s) (queue_after s (take j lines) cpu) e.op e.reply _ (change s.buckets (are_direct s) (queue_after s (take j lines) cpu) e.op e.reply (fit-reply j l cpu e at p q)) none missing
      ]
    where
      fit-reply : (j : ℕ) (l : Line) (cpu : ℕ) (e : QEntry) → slice_get lines j ≡ Some l → l.place ≡ place.Cpu cpu → l.entry ≡ of.Cpu e → reply_of (step s.buckets (are_direct s) (queue_after s (take j lines) cpu) e.op) ≡ Some e.reply
      fit-reply j l cpu e at p q = legal-reply s lines (take j lines) cpu e
          (ap (λ x. unfit_at s (take j lines) x (of.Cpu e)) (sym p) ∙ (ap (unfit_at s (take j lines) l.place) (sym q)
          ∙ fine-behind (λ above x. unfit_at s above x.place x.entry) [] lines (not-bad (first_unfit s lines) (verdict_by_numbers s lines end) legal).0 j l at))

  found-in : (cpu : ℕ) (ls : List Line) (from : ℕ) → ((j : ℕ) (l : Line) → slice_get ls j ≡ Some l → slice_get lines (from + j) ≡ Some l) → AllByRecursion (λ e. e.reply ≡ Missing → ⊥) (cpu_journal cpu ls)
  found-in cpu [] from at = tt
  found-in cpu (l ∷ ls) from at = at_place l.place l.entry refl refl (found-in cpu ls (from + 1) (λ j x h. ap (slice_get lines) (next from j) ∙ at (suc j) x h)) where
    next : (m k : ℕ) → m + 1 + k ≡ m + suc k
    next m k = omega arith

    at_test : (b : Bool) (i : ℕ) (e : QEntry) → (i == cpu) ≡ b → l.place ≡ place.Cpu i → l.entry ≡ of.Cpu e → AllByRecursion (λ x. x.reply ≡ Missing → ⊥) (cpu_journal cpu ls) → AllByRecursion (λ x. x.reply ≡ Missing → ⊥) (cons_option (cond {A = Option QEntry} b (Some e) None) (cpu_journal cpu ls))
    at_test true i e is p q rest = (λ missing. found-line (from + 0) l i e (at 0 l refl) p q missing, rest)
    at_test false i e is p q rest = rest

    at_place : (p : Place) (e : AnyEntry) → l.place ≡ p → l.entry ≡ e → AllByRecursion (λ x. x.reply ≡ Missing → ⊥) (cpu_journal cpu ls) → AllByRecursion (λ x. x.reply ≡ Missing → ⊥) (cons_option (queue_entry_at cpu p e) (cpu_journal cpu ls))
    at_place (place.Cpu i) (of.Cpu e) p q rest = at_test (i == cpu) i e refl p q rest
    at_place (place.Cpu i) (of.Timer e) p q rest = rest
    at_place (place.Cpu i) (of.Own e) p q rest = rest
    at_place (place.Timer i) (of.Timer e) p q rest = rest
    at_place (place.Timer i) (of.Cpu e) p q rest = rest
    at_place (place.Timer i) (of.Own e) p q rest = rest
    at_place (place.Actor i) (of.Timer e) p q rest = rest
    at_place (place.Actor i) (of.Cpu e) p q rest = rest
    at_place (place.Actor i) (of.Own e) p q rest = rest

  run : IsRunOf s (lists_by s lines)
  run = record {
    actors = many;
    places = places s lines of_script right;
    formed = well-formed s lines of_script right;
    callouts = λ i below. subst (IsLegal (actors_of s) (spec_at s i)) (shown.callouts i) (histories.callouts i);
    cpus = λ cpu below. subst (IsLegalQueue (actors_of s) cpu s.buckets (are_direct s)) (shown.cpus cpu) (histories.cpus cpu);
    found = λ cpu below. subst (AllByRecursion (λ (e : QEntry). e.reply ≡ Missing → ⊥)) (shown.cpus cpu) (found-in cpu lines 0 (λ j l h. ap (slice_get lines) (start j) ∙ h));
    follow = follow;
  }
    where
      start : (m : ℕ) → 0 + m ≡ m
      start m = omega arith
