-- Lines that are the shown histories of a run's lists show its notes.
use Rattle.std.proofs.Common.{◌≡◌, ℕ, zero, suc, ◌+◌, ◌<◌, ◌≤◌, ◌==◌, Bool, true, false, cond, List, [], ◌∷◌, map, take, length, refl, ap, sym, ◌∙◌, arith}
use Rattle.std.specs.Prelude.{Option, Some, None, slice_get, option_and_then}
use Rattle.std.specs.List.{cons_option, filter, filter_map, range_with_len}
use Rattle.std.specs.Option.{option_map}
use Rattle.std.proofs.lemmas.Option.{slice_get-map, slice_get_within, slice_get-get_or}
use Rattle.co_object.specs.declared.Entry.{Entry}
use Rattle.co_object.specs.declared.QEntry.{QEntry}
use Rattle.co_object.specs.declared.Note.{Note}
use Rattle.co_object.specs.declared.Op.{Op}
use Rattle.co_object.specs.declared.Op.TheVariants.{Call, Run}
use Rattle.co_object.specs.declared.Place.{Place}
use Rattle.co_object.specs.declared.Place.TheVariants as place
use Rattle.co_object.specs.declared.AnyEntry.{AnyEntry}
use Rattle.co_object.specs.declared.AnyEntry.TheVariants as of
use Rattle.co_object.specs.Lists.{same_place, all_notes_of, IsWellFormed}
use Rattle.co_object.proofs.Passing.{passing, count-passing}
use Rattle.co_program.specs.declared.action.Asked.TheVariants.{Callout, Queue, Itself}
use Rattle.co_program.specs.declared.script.Script.{Script}
use Rattle.co_program.specs.Action.{Action, Nothing, Silent, Take, Asks, action_for}
use Rattle.co_program.specs.Cursor.{Cursor, start_of}
use Rattle.co_program.specs.Follows.{Histories, Fits, FitsCallout, AreNext, goes_on, at_next_note}
use Rattle.co_program.specs.Runs.{IsRunOf, notes_by, shown_histories}
use Rattle.co_report.specs.declared.line.Line.{Line}
use Rattle.co_print.specs.Histories.{Numbered, shown, shown_at, shown_history, all_numbered_of}
use Rattle.co_notes.specs.declared.reading.notes.NumberedEntry.{NumberedEntry}
use Rattle.co_print.specs.Origins.{note_at}
use Rattle.co_print.proofs.Counted.{passing-numbered, pos-below, note-actor}
use Rattle.co_object.proofs.Members.{find-has}
use Rattle.co_print.proofs.Numbering.{numbered, has-note, found, Found, all-notes-of}
use Rattle.co_print.proofs.ShownHistories.{histories_shown}
use Rattle.co_check.specs.Runs.{IsLineOfNote, lines_in, shown_line, lines_at, ReportsOfRunsAreLegal}
use Rattle.co_check.specs.Shown.{actor_of, callout_entry_at, queue_entry_at, callout_history, cpu_journal}
use Rattle.co_check.proofs.Taking.{some-is}
use Rattle.co_check.proofs.SameValues.{equal, itself}
use Rattle.co_check.proofs.Showing.{same-equal, same-itself}
use Rattle.co_check.proofs.RunsLegal.{runs-legal}

none-some : (x : NumberedEntry) → ◌≡◌ {A = Option NumberedEntry} None (Some x) → ⊥
none-some x h = cc

-- ---- the lines of a place

-- a line stands among those of its place, below as many as stand above it
pub filter-get : (q : Line → Bool) (lines : List Line) (j : ℕ) (l : Line) → slice_get lines j ≡ Some l → q l ≡ true → slice_get (filter q lines) (passing q (take j lines)) ≡ Some l
filter-get q [] j l at here = cc
filter-get q (x ∷ xs) zero l at here =
    ap (λ b. slice_get (cond {A = List Line} b (x ∷ filter q xs) (filter q xs)) 0) (ap q (some-is x l at) ∙ here) ∙ at
filter-get q (x ∷ xs) (suc j) l at here = at_test (q x) (filter-get q xs j l at here) where
  at_test : (b : Bool) → slice_get (filter q xs) (passing q (take j xs)) ≡ Some l → slice_get (cond {A = List Line} b (x ∷ filter q xs) (filter q xs)) (cond b 1 0 + passing q (take j xs)) ≡ Some l
  at_test true rest = ap (slice_get (x ∷ filter q xs)) (one (passing q (take j xs))) ∙ rest where
    one : (n : ℕ) → 1 + n ≡ suc n
    one n = omega arith
  at_test false rest = ap (slice_get (filter q xs)) (none (passing q (take j xs))) ∙ rest where
    none : (n : ℕ) → 0 + n ≡ n
    none n = omega arith

-- where a line of a place stands among all
pub record StandsAt (q : Line → Bool) (lines : List Line) (m : ℕ) (l : Line) : Type 0 where
  pub index : ℕ
  pub at : slice_get lines index ≡ Some l
  pub here : q l ≡ true
  pub above : passing q (take index lines) ≡ m

pub filter-index : (q : Line → Bool) (lines : List Line) (m : ℕ) (l : Line) → slice_get (filter q lines) m ≡ Some l → StandsAt q lines m l
filter-index q [] m l at = cc
filter-index q (x ∷ xs) m l at = at_test (q x) refl m at (λ k rest. filter-index q xs k l rest) where
  behind : (k n : ℕ) → cond (q x) 1 0 + k ≡ n → StandsAt q xs k l → StandsAt q (x ∷ xs) n l
  behind k n sum r = record { index = suc r.index; at = r.at; here = r.here; above = ap (λ i. cond (q x) 1 0 + i) r.above ∙ sum }

  at_test : (b : Bool) → q x ≡ b → (n : ℕ) → slice_get (cond {A = List Line} b (x ∷ filter q xs) (filter q xs)) n ≡ Some l → ((k : ℕ) → slice_get (filter q xs) k ≡ Some l → StandsAt q xs k l) → StandsAt q (x ∷ xs) n l
  at_test true is zero there later = record { index = zero; at = there; here = ap q (sym (some-is x l there)) ∙ is; above = refl }
  at_test true is (suc n) there later = behind n (suc n) (ap (λ b. cond b 1 0 + n) is ∙ one n) (later n there) where
    one : (n : ℕ) → 1 + n ≡ suc n
    one n = omega arith
  at_test false is n there later = behind n n (ap (λ b. cond b 1 0 + n) is ∙ none n) (later n there) where
    none : (n : ℕ) → 0 + n ≡ n
    none n = omega arith

-- ---- what is shown at a position

at-pos : (n : Note) (pos : ℕ) → n.pos ≡ pos → (n.pos == pos) ≡ true
at-pos n pos h = ap (λ m. m == pos) h ∙ itself pos

-- a note of the lists is shown at its position
pub shown-note : (lists : List (List Note)) (a k : ℕ) (n : Note) → IsWellFormed lists → note_at lists a k ≡ Some n → shown_at (all_numbered_of n.place lists) n.pos ≡ Some (record { number = k; entry = n.entry })
shown-note lists a k n formed at =
    ap (option_map shown)
    (find-has (λ (x : Numbered). x.note.pos == n.pos) (numbered k n) (all_numbered_of n.place lists)
    (passing-numbered n.place n.pos lists ∙ formed.once n.place n.pos (pos-below lists a k n formed at))
    (at-pos n n.pos refl)
    (has-note n.place lists a k n at (same-itself n.place)))

-- each position has a note
noted : (lists : List (List Note)) (p : Place) (pos : ℕ) → IsWellFormed lists → pos < length (all_notes_of p lists) → Found p (λ n. n.pos == pos) lists
noted lists p pos formed below = found p (λ (n : Note). n.pos == pos) lists
    (omega (arith, formed.once p pos below, count-passing (λ (n : Note). n.pos == pos) (all_notes_of p lists)))

pub get-range : {X : Type 0} (f : ℕ → Option X) (from n m : ℕ) → ((k : ℕ) → k < from + n → from ≤ k → (x : X) × (f k ≡ Some x)) → m < n → slice_get (filter_map f (range_with_len from n)) m ≡ f (from + m)
get-range f from zero m each below = absurd (omega arith)
get-range f from (suc n) zero each below =
    let r = each from (omega arith) (omega arith) in
    ap (λ o. slice_get (cons_option o (filter_map f (range_with_len (from + 1) n))) 0) r.1 ∙ (sym r.1 ∙ ap f (start from)) where
      start : (m : ℕ) → m ≡ m + 0
      start m = omega arith
get-range f from (suc n) (suc m) each below =
    let r = each from (omega arith) (omega arith) in
    ap (λ o. slice_get (cons_option o (filter_map f (range_with_len (from + 1) n))) (suc m)) r.1
    ∙ (get-range f (from + 1) n m (λ k b le. each k (omega arith) (omega arith)) (omega arith) ∙ ap f (shifted from m)) where
      shifted : (a b : ℕ) → a + 1 + b ≡ a + suc b
      shifted a b = omega arith

pub length-range : {X : Type 0} (f : ℕ → Option X) (from n : ℕ) → length (filter_map f (range_with_len from n)) ≤ n
length-range f from zero = omega arith
length-range f from (suc n) = at_test (f from) (length-range f (from + 1) n) where
  at_test : (o : Option _) → length (filter_map f (range_with_len (from + 1) n)) ≤ n → length (cons_option o (filter_map f (range_with_len (from + 1) n))) ≤ suc n
  at_test None rest = omega (arith, rest)
  at_test (Some x) rest = omega (arith, rest)

pub length-numbered : (p : Place) (lists : List (List Note)) → length (all_numbered_of p lists) ≡ length (all_notes_of p lists)
length-numbered p lists = sym (length-mapped (λ (x : Numbered). x.note) (all_numbered_of p lists)) ∙ ap length (all-notes-of p lists) where
  length-mapped : {X Y : Type 0} (f : X → Y) (xs : List X) → length (map f xs) ≡ length xs
  length-mapped f [] = refl
  length-mapped f (x ∷ xs) = ap suc (length-mapped f xs)

-- the history at a position
pub history-get : (lists : List (List Note)) (p : Place) (m : ℕ) → IsWellFormed lists → m < length (all_notes_of p lists) → slice_get (shown_history lists p) m ≡ shown_at (all_numbered_of p lists) m
history-get lists p m formed below =
    get-range (shown_at (all_numbered_of p lists)) 0 (length (all_numbered_of p lists)) m
    (λ k b le. some k (omega (arith, b, length-numbered p lists)))
    (omega (arith, below, length-numbered p lists))
    ∙ ap (shown_at (all_numbered_of p lists)) (start m) where
      start : (k : ℕ) → 0 + k ≡ k
      start k = omega arith

      some : (k : ℕ) → k < length (all_notes_of p lists) → (x : NumberedEntry) × (shown_at (all_numbered_of p lists) k ≡ Some x)
      some k b =
          let f = noted lists p k formed b in (
            record { number = f.number; entry = f.note.entry },
            ap (λ q. shown_at (all_numbered_of q lists) k) (sym (same-equal f.note.place p f.here))
                ∙ (ap (shown_at (all_numbered_of f.note.place lists)) (sym (equal f.note.pos k f.passes)) ∙ shown-note lists f.actor f.number f.note formed f.at),
          )

-- ---- whose notes they are

callout-actor : (a act i : ℕ) (op : Op) (removed : Option ℕ) (p : Place) (e : AnyEntry) → FitsCallout a act i op removed p e → actor_of e ≡ a
callout-actor a act i (Call op) removed (place.Timer j) (of.Timer e) (x, y, z) = ap (λ (v : Entry). v.actor) y
callout-actor a act i (Call op) removed (place.Cpu j) (of.Cpu e) (x, y) = ap (λ (v : QEntry). v.actor) y
callout-actor a act i (Run op) removed (place.Timer j) (of.Timer e) (x, y) = ap (λ (v : Entry). v.actor) y
callout-actor a act i (Call op) removed (place.Timer j) (of.Cpu e) h = absurd h
callout-actor a act i (Call op) removed (place.Timer j) (of.Own e) h = absurd h
callout-actor a act i (Call op) removed (place.Cpu j) (of.Timer e) h = absurd h
callout-actor a act i (Call op) removed (place.Cpu j) (of.Own e) h = absurd h
callout-actor a act i (Call op) removed (place.Actor j) e h = absurd h
callout-actor a act i (Run op) removed (place.Timer j) (of.Cpu e) h = absurd h
callout-actor a act i (Run op) removed (place.Timer j) (of.Own e) h = absurd h
callout-actor a act i (Run op) removed (place.Cpu j) e h = absurd h
callout-actor a act i (Run op) removed (place.Actor j) e h = absurd h

fits-actor : (a : ℕ) (c : Cursor) (action : Action) (p : Place) (e : AnyEntry) → Fits a c action p e → actor_of e ≡ a
fits-actor a c (Asks act (Callout i op)) p e h = callout-actor a act i op c.removed p e h
fits-actor a c (Asks act (Queue cpu op)) (place.Cpu x) (of.Cpu e) (y, z) = ap (λ (v : QEntry). v.actor) z
fits-actor a c (Asks act (Itself kind)) (place.Actor x) (of.Own e) (y, z) = ap (λ v. v.actor) z
fits-actor a c (Asks act (Queue cpu op)) (place.Cpu x) (of.Timer e) h = absurd h
fits-actor a c (Asks act (Queue cpu op)) (place.Cpu x) (of.Own e) h = absurd h
fits-actor a c (Asks act (Queue cpu op)) (place.Timer x) e h = absurd h
fits-actor a c (Asks act (Queue cpu op)) (place.Actor x) e h = absurd h
fits-actor a c (Asks act (Itself kind)) (place.Actor x) (of.Timer e) h = absurd h
fits-actor a c (Asks act (Itself kind)) (place.Actor x) (of.Cpu e) h = absurd h
fits-actor a c (Asks act (Itself kind)) (place.Timer x) e h = absurd h
fits-actor a c (Asks act (Itself kind)) (place.Cpu x) e h = absurd h
fits-actor a c Nothing p e h = absurd h
fits-actor a c (Silent to) p e h = absurd h
fits-actor a c (Take held to) p e h = absurd h

next-actor : (s : Script) (H : Histories) (a : ℕ) (c : Cursor) (notes : List Note) (k : ℕ) (n : Note) → AreNext s H a c notes → slice_get notes k ≡ Some n → actor_of n.entry ≡ a
next-actor s H a c [] k n h at = cc
next-actor s H a c (x ∷ xs) zero n h at = ap (λ (y : Note). actor_of y.entry) (sym (some-is x n at)) ∙ fits-actor a (at_next_note s a c) (action_for s a (at_next_note s a c)) x.place x.entry h.0.fits
next-actor s H a c (x ∷ xs) (suc k) n h at = next-actor s H a (goes_on s H (at_next_note s a c) x) xs k n h.1 at

own-note : (s : Script) (lists : List (List Note)) (a k : ℕ) (n : Note) → IsRunOf s lists → note_at lists a k ≡ Some n → actor_of n.entry ≡ a
own-note s lists a k n run at =
    let inside : a < length lists = note-actor lists a k n at in
    next-actor s (shown_histories lists) a (start_of s a) (notes_by lists a) k n (run.follow a (omega (arith, inside, run.actors))).each
    (sym (ap (option_and_then (λ (ns : List Note). slice_get ns k)) (slice_get-get_or lists a [] inside)) ∙ at)

-- ---- all lines

module _ (s : Script) (lists : List (List Note)) (lines : List Line) (run : IsRunOf s lists) (shows : (p : Place) → map shown_line (lines_at p lines) ≡ shown_history lists p) where
  line-shown : (p : Place) (m : ℕ) (l : Line) → slice_get (lines_at p lines) m ≡ Some l → slice_get (shown_history lists p) m ≡ Some (shown_line l)
  line-shown p m l at = ap (λ xs. slice_get xs m) (sym (shows p)) ∙ (slice_get-map shown_line (lines_at p lines) m ∙ ap (option_map shown_line) at)

  each-line : (j : ℕ) (l : Line) → slice_get lines j ≡ Some l → (note : Note) × (note_at lists (actor_of l.entry) l.number ≡ Some note) × IsLineOfNote lines j (actor_of l.entry) l.number l note
  each-line j l at = (
    f.note,
    ap (λ m. note_at lists m l.number) by ∙ (ap (note_at lists f.actor) number ∙ f.at),
    record {
      at = at;
      actor = refl;
      number_is = refl;
      place = sym place_is;
      entry = entry_is;
      pos = count-passing (λ (x : Line). same_place x.place l.place) (take j lines) ∙ sym pos_is;
    },
  )
    where
      q : Line → Bool
      q = λ x. same_place x.place l.place

      m : ℕ
      m = passing (λ (x : Line). same_place x.place l.place) (take j lines)

      there : slice_get (shown_history lists l.place) (passing (λ (x : Line). same_place x.place l.place) (take j lines)) ≡ Some (shown_line l)
      there = line-shown l.place _ l (filter-get (λ (x : Line). same_place x.place l.place) lines j l at (same-itself l.place))

      below : passing (λ (x : Line). same_place x.place l.place) (take j lines) < length (all_notes_of l.place lists)
      below = omega (arith, slice_get_within (shown_history lists l.place) (passing (λ (x : Line). same_place x.place l.place) (take j lines)) (shown_line l) there, length-range (shown_at (all_numbered_of l.place lists)) 0 (length (all_numbered_of l.place lists)), length-numbered l.place lists)

      f : Found l.place (λ n. n.pos == passing (λ (x : Line). same_place x.place l.place) (take j lines)) lists
      f = noted lists l.place (passing (λ (x : Line). same_place x.place l.place) (take j lines)) run.formed below

      place_is : f.note.place ≡ l.place
      place_is = same-equal f.note.place l.place f.here

      pos_is : f.note.pos ≡ passing (λ (x : Line). same_place x.place l.place) (take j lines)
      pos_is = equal f.note.pos (passing (λ (x : Line). same_place x.place l.place) (take j lines)) f.passes

      same : shown_line l ≡ record { number = f.number; entry = f.note.entry }
      same = some-is (shown_line l) (record { number = f.number; entry = f.note.entry })
          (sym there
          ∙ (history-get lists l.place (passing (λ (x : Line). same_place x.place l.place) (take j lines)) run.formed below
          ∙ (ap (λ p. shown_at (all_numbered_of p lists) (passing (λ (x : Line). same_place x.place l.place) (take j lines))) (sym place_is)
          ∙ (ap (shown_at (all_numbered_of f.note.place lists)) (sym pos_is) ∙ shown-note lists f.actor f.number f.note run.formed f.at))))

      number : l.number ≡ f.number
      number = ap (λ (x : NumberedEntry). x.number) same

      entry_is : l.entry ≡ f.note.entry
      entry_is = ap (λ (x : NumberedEntry). x.entry) same

      by : actor_of l.entry ≡ f.actor
      by = ap actor_of entry_is ∙ own-note s lists f.actor f.number f.note run f.at

  each-note : (a k : ℕ) (n : Note) → note_at lists a k ≡ Some n → (j : ℕ) × (l : Line) × IsLineOfNote lines j a k l n
  each-note a k n at = then (slice_get (lines_at n.place lines) n.pos) refl where
    there : slice_get (map shown_line (lines_at n.place lines)) n.pos ≡ Some (record { number = k; entry = n.entry })
    there = ap (λ xs. slice_get xs n.pos) (shows n.place) ∙ (history-get lists n.place n.pos run.formed (pos-below lists a k n run.formed at) ∙ shown-note lists a k n run.formed at)

    then : (o : Option Line) → slice_get (lines_at n.place lines) n.pos ≡ o → (j : ℕ) × (l : Line) × IsLineOfNote lines j a k l n
    then None is =
        let none : slice_get (map shown_line (lines_at n.place lines)) n.pos ≡ None = slice_get-map shown_line (lines_at n.place lines) n.pos ∙ ap (option_map shown_line) is in
        absurd (none-some (record { number = k; entry = n.entry }) (sym none ∙ there))
    then (Some l) is =
        let same : shown_line l ≡ record { number = k; entry = n.entry } = some-is (shown_line l) (record { number = k; entry = n.entry }) (sym (slice_get-map shown_line (lines_at n.place lines) n.pos ∙ ap (option_map shown_line) is) ∙ there) in
        let r = filter-index (λ (x : Line). same_place x.place n.place) lines n.pos l is in
        let place_is : l.place ≡ n.place = same-equal l.place n.place r.here in
        let entry_is : l.entry ≡ n.entry = ap (λ (x : NumberedEntry). x.entry) same in (
          r.index,
          l,
          record {
            at = r.at;
            actor = ap actor_of entry_is ∙ own-note s lists a k n run at;
            number_is = ap (λ (x : NumberedEntry). x.number) same;
            place = place_is;
            entry = entry_is;
            pos = ap (λ p. lines_in p (take r.index lines)) place_is ∙ (count-passing (λ (x : Line). same_place x.place n.place) (take r.index lines) ∙ r.above);
          },
        )

-- ---- histories

pub callouts-of : (f : AnyEntry → Option Entry) → ((e : Entry) → f (of.Timer e) ≡ Some e) → ((e : QEntry) → f (of.Cpu e) ≡ None) → ((e : _) → f (of.Own e) ≡ None)
    → (i : ℕ) (lines : List Line) → filter_map f (map (λ (x : NumberedEntry). x.entry) (map shown_line (lines_at (place.Timer i) lines))) ≡ callout_history i lines
callouts-of f timer cpu own i [] = refl
callouts-of f timer cpu own i (l ∷ ls) = at_place l.place l.entry (callouts-of f timer cpu own i ls) where
  at_place : (p : Place) (e : AnyEntry) → filter_map f (map (λ (x : NumberedEntry). x.entry) (map shown_line (lines_at (place.Timer i) ls))) ≡ callout_history i ls
      → filter_map f (map (λ (x : NumberedEntry). x.entry) (map shown_line (cond {A = List Line} (same_place p (place.Timer i)) (record l { place = p; entry = e } ∷ lines_at (place.Timer i) ls) (lines_at (place.Timer i) ls)))) ≡ cons_option (callout_entry_at i p e) (callout_history i ls)
  at_place (place.Timer j) (of.Timer e) rest = at_test (j == i) where
    at_test : (b : Bool) → filter_map f (map (λ (x : NumberedEntry). x.entry) (map shown_line (cond {A = List Line} b (record l { place = place.Timer j; entry = of.Timer e } ∷ lines_at (place.Timer i) ls) (lines_at (place.Timer i) ls)))) ≡ cons_option (cond {A = Option Entry} b (Some e) None) (callout_history i ls)
    at_test true = ap (λ o. cons_option o (filter_map f (map (λ (x : NumberedEntry). x.entry) (map shown_line (lines_at (place.Timer i) ls))))) (timer e) ∙ ap (cons_option (Some e)) rest
    at_test false = rest
  at_place (place.Timer j) (of.Cpu e) rest = at_test (j == i) where
    at_test : (b : Bool) → filter_map f (map (λ (x : NumberedEntry). x.entry) (map shown_line (cond {A = List Line} b (record l { place = place.Timer j; entry = of.Cpu e } ∷ lines_at (place.Timer i) ls) (lines_at (place.Timer i) ls)))) ≡ callout_history i ls
    at_test true = ap (λ o. cons_option o (filter_map f (map (λ (x : NumberedEntry). x.entry) (map shown_line (lines_at (place.Timer i) ls))))) (cpu e) ∙ rest
    at_test false = rest
  at_place (place.Timer j) (of.Own e) rest = at_test (j == i) where
    at_test : (b : Bool) → filter_map f (map (λ (x : NumberedEntry). x.entry) (map shown_line (cond {A = List Line} b (record l { place = place.Timer j; entry = of.Own e } ∷ lines_at (place.Timer i) ls) (lines_at (place.Timer i) ls)))) ≡ callout_history i ls
    at_test true = ap (λ o. cons_option o (filter_map f (map (λ (x : NumberedEntry). x.entry) (map shown_line (lines_at (place.Timer i) ls))))) (own e) ∙ rest
    at_test false = rest
  at_place (place.Cpu j) (of.Timer e) rest = rest
  at_place (place.Cpu j) (of.Cpu e) rest = rest
  at_place (place.Cpu j) (of.Own e) rest = rest
  at_place (place.Actor j) (of.Timer e) rest = rest
  at_place (place.Actor j) (of.Cpu e) rest = rest
  at_place (place.Actor j) (of.Own e) rest = rest

pub queues-of : (f : AnyEntry → Option QEntry) → ((e : Entry) → f (of.Timer e) ≡ None) → ((e : QEntry) → f (of.Cpu e) ≡ Some e) → ((e : _) → f (of.Own e) ≡ None)
    → (i : ℕ) (lines : List Line) → filter_map f (map (λ (x : NumberedEntry). x.entry) (map shown_line (lines_at (place.Cpu i) lines))) ≡ cpu_journal i lines
queues-of f timer cpu own i [] = refl
queues-of f timer cpu own i (l ∷ ls) = at_place l.place l.entry (queues-of f timer cpu own i ls) where
  at_place : (p : Place) (e : AnyEntry) → filter_map f (map (λ (x : NumberedEntry). x.entry) (map shown_line (lines_at (place.Cpu i) ls))) ≡ cpu_journal i ls
      → filter_map f (map (λ (x : NumberedEntry). x.entry) (map shown_line (cond {A = List Line} (same_place p (place.Cpu i)) (record l { place = p; entry = e } ∷ lines_at (place.Cpu i) ls) (lines_at (place.Cpu i) ls)))) ≡ cons_option (queue_entry_at i p e) (cpu_journal i ls)
  at_place (place.Cpu j) (of.Cpu e) rest = at_test (j == i) where
    at_test : (b : Bool) → filter_map f (map (λ (x : NumberedEntry). x.entry) (map shown_line (cond {A = List Line} b (record l { place = place.Cpu j; entry = of.Cpu e } ∷ lines_at (place.Cpu i) ls) (lines_at (place.Cpu i) ls)))) ≡ cons_option (cond {A = Option QEntry} b (Some e) None) (cpu_journal i ls)
    at_test true = ap (λ o. cons_option o (filter_map f (map (λ (x : NumberedEntry). x.entry) (map shown_line (lines_at (place.Cpu i) ls))))) (cpu e) ∙ ap (cons_option (Some e)) rest
    at_test false = rest
  at_place (place.Cpu j) (of.Timer e) rest = at_test (j == i) where
    at_test : (b : Bool) → filter_map f (map (λ (x : NumberedEntry). x.entry) (map shown_line (cond {A = List Line} b (record l { place = place.Cpu j; entry = of.Timer e } ∷ lines_at (place.Cpu i) ls) (lines_at (place.Cpu i) ls)))) ≡ cpu_journal i ls
    at_test true = ap (λ o. cons_option o (filter_map f (map (λ (x : NumberedEntry). x.entry) (map shown_line (lines_at (place.Cpu i) ls))))) (timer e) ∙ rest
    at_test false = rest
  at_place (place.Cpu j) (of.Own e) rest = at_test (j == i) where
    at_test : (b : Bool) → filter_map f (map (λ (x : NumberedEntry). x.entry) (map shown_line (cond {A = List Line} b (record l { place = place.Cpu j; entry = of.Own e } ∷ lines_at (place.Cpu i) ls) (lines_at (place.Cpu i) ls)))) ≡ cpu_journal i ls
    at_test true = ap (λ o. cons_option o (filter_map f (map (λ (x : NumberedEntry). x.entry) (map shown_line (lines_at (place.Cpu i) ls))))) (own e) ∙ rest
    at_test false = rest
  at_place (place.Timer j) (of.Timer e) rest = rest
  at_place (place.Timer j) (of.Cpu e) rest = rest
  at_place (place.Timer j) (of.Own e) rest = rest
  at_place (place.Actor j) (of.Timer e) rest = rest
  at_place (place.Actor j) (of.Cpu e) rest = rest
  at_place (place.Actor j) (of.Own e) rest = rest

pub reports-legal : ReportsOfRunsAreLegal
reports-legal s lists lines end run of_script shows = runs-legal s lists lines end run of_script (record {
  callouts = λ i. sym (callouts-of _ (λ e. refl) (λ e. refl) (λ e. refl) i lines)
      ∙ ap (filter_map _) (ap (map (λ (x : NumberedEntry). x.entry)) (shows (place.Timer i)) ∙ histories_shown (place.Timer i) lists);
  cpus = λ cpu. sym (queues-of _ (λ e. refl) (λ e. refl) (λ e. refl) cpu lines)
      ∙ ap (filter_map _) (ap (map (λ (x : NumberedEntry). x.entry)) (shows (place.Cpu cpu)) ∙ histories_shown (place.Cpu cpu) lists);
  each_line = each-line s lists lines run shows;
  each_note = each-note s lists lines run shows;
})
