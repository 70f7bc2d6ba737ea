-- What is seen of an actor's lines is what the histories say of its notes.
use Rattle.std.proofs.Common.{◌≡◌, ℕ, zero, suc, ◌+◌, ◌<◌, ◌≤◌, ◌==◌, Bool, true, false, cond, List, [], ◌∷◌, ◌++◌, take, drop, length, append_assoc, refl, ap, sym, subst, ◌∙◌, arith}
use Rattle.std.specs.Prelude.{Option, Some, None, is_some, slice_get, option_and_then}
use Rattle.std.specs.List.{filter_map, cons_option, range_with_len}
use Rattle.std.proofs.lemmas.List.Elements.{filter_map-append}
use Rattle.std.proofs.lemmas.Option.{slice_get_past}
use Rattle.co_object.specs.declared.Entry.{Entry}
use Rattle.co_object.specs.declared.QEntry.{QEntry}
use Rattle.co_object.specs.declared.Note.{Note}
use Rattle.co_object.specs.declared.Place.{Place}
use Rattle.co_object.specs.declared.Place.TheVariants as place
use Rattle.co_object.specs.declared.AnyEntry.{AnyEntry}
use Rattle.co_object.specs.declared.AnyEntry.TheVariants as of
use Rattle.co_object.specs.Lists.{same_place, IsWellFormed}
use Rattle.co_object.specs.Stand.{off}
use Rattle.co_object.specs.History.{state}
use Rattle.co_object.proofs.Passing.{passing, count-passing, passing-append}
use Rattle.co_program.specs.declared.script.Script.{Script}
use Rattle.co_program.specs.Action.{spec_at}
use Rattle.co_program.specs.Follows.{Histories, listed_after, scans_before, scan_count}
use Rattle.co_program.specs.Runs.{shown_histories}
use Rattle.co_report.specs.declared.line.Line.{Line}
use Rattle.co_print.specs.Origins.{note_at}
use Rattle.co_check.specs.Astray.{SeenLine, seen_at, seen_from, seen_lines, note_numbered, lines_numbered}
use Rattle.co_check.specs.Index.{note_slot}
use Rattle.co_check.specs.Lines.{AreLinesOf, IsOfKind}
use Rattle.co_check.specs.Numbers.{lines_made_by}
use Rattle.co_check.specs.Programs.{IsSeenAs, AreSeenAs}
use Rattle.co_check.specs.Runs.{Show, lines_in}
use Rattle.co_check.specs.Shown.{is_note, callout_entry_at, queue_entry_at, callout_history, cpu_journal, is_queued, scans_above}
use Rattle.co_check.proofs.ByActor.{note-found}
use Rattle.co_check.proofs.Counting.{none-any, index-is, count-enough}
use Rattle.co_check.proofs.Along.{front}
use Rattle.co_check.proofs.Numbering.{any-index}
use Rattle.co_check.proofs.Taking.{some-is}
use Rattle.co_check.proofs.Showing.{is-note, stands, shows, first-one, same-itself}

-- ---- the lines of a place up to one of them

take-front : {X : Type 0} (xs ys : List X) → take (length xs) (xs ++ ys) ≡ xs
take-front [] ys = refl
take-front (x ∷ xs) ys = ap (λ zs. x ∷ zs) (take-front xs ys)

split : {X : Type 0} (xs : List X) (k : ℕ) → take k xs ++ drop k xs ≡ xs
split [] zero = refl
split [] (suc k) = refl
split (x ∷ xs) zero = refl
split (x ∷ xs) (suc k) = ap (λ ys. x ∷ ys) (split xs k)

kinds : (s : Script) (lines : List Line) (k : ℕ) → AreLinesOf s lines → AreLinesOf s (take k lines)
kinds s lines zero h = tt
kinds s [] (suc k) h = tt
kinds s (l ∷ ls) (suc k) h = (h.0, kinds s ls k h.1)

callout-one : (i : ℕ) (p : Place) (e : AnyEntry) (rest : List Entry) → IsOfKind p e → length (cons_option (callout_entry_at i p e) rest) ≡ cond (same_place p (place.Timer i)) 1 0 + length rest
callout-one i (place.Timer j) (of.Timer e) rest kind = at_test (j == i) where
  at_test : (b : Bool) → length (cons_option (cond {A = Option Entry} b (Some e) None) rest) ≡ cond b 1 0 + length rest
  at_test true = omega arith
  at_test false = omega arith
callout-one i (place.Cpu j) (of.Cpu e) rest kind = omega arith
callout-one i (place.Actor j) (of.Own e) rest kind = omega arith
callout-one i (place.Timer j) (of.Cpu e) rest kind = absurd kind
callout-one i (place.Timer j) (of.Own e) rest kind = absurd kind
callout-one i (place.Cpu j) (of.Timer e) rest kind = absurd kind
callout-one i (place.Cpu j) (of.Own e) rest kind = absurd kind
callout-one i (place.Actor j) (of.Timer e) rest kind = absurd kind
callout-one i (place.Actor j) (of.Cpu e) rest kind = absurd kind

queue-one : (i : ℕ) (p : Place) (e : AnyEntry) (rest : List QEntry) → IsOfKind p e → length (cons_option (queue_entry_at i p e) rest) ≡ cond (same_place p (place.Cpu i)) 1 0 + length rest
queue-one i (place.Cpu j) (of.Cpu e) rest kind = at_test (j == i) where
  at_test : (b : Bool) → length (cons_option (cond {A = Option QEntry} b (Some e) None) rest) ≡ cond b 1 0 + length rest
  at_test true = omega arith
  at_test false = omega arith
queue-one i (place.Timer j) (of.Timer e) rest kind = omega arith
queue-one i (place.Actor j) (of.Own e) rest kind = omega arith
queue-one i (place.Timer j) (of.Cpu e) rest kind = absurd kind
queue-one i (place.Timer j) (of.Own e) rest kind = absurd kind
queue-one i (place.Cpu j) (of.Timer e) rest kind = absurd kind
queue-one i (place.Cpu j) (of.Own e) rest kind = absurd kind
queue-one i (place.Actor j) (of.Timer e) rest kind = absurd kind
queue-one i (place.Actor j) (of.Cpu e) rest kind = absurd kind

callout-count : (s : Script) (i : ℕ) (lines : List Line) → AreLinesOf s lines → length (callout_history i lines) ≡ passing (λ l. same_place l.place (place.Timer i)) lines
callout-count s i [] h = refl
callout-count s i (l ∷ ls) h = callout-one i l.place l.entry (callout_history i ls) h.0.kind ∙ ap (λ n. cond (same_place l.place (place.Timer i)) 1 0 + n) (callout-count s i ls h.1)

queue-count : (s : Script) (i : ℕ) (lines : List Line) → AreLinesOf s lines → length (cpu_journal i lines) ≡ passing (λ l. same_place l.place (place.Cpu i)) lines
queue-count s i [] h = refl
queue-count s i (l ∷ ls) h = queue-one i l.place l.entry (cpu_journal i ls) h.0.kind ∙ ap (λ n. cond (same_place l.place (place.Cpu i)) 1 0 + n) (queue-count s i ls h.1)

-- the history of what stands up to an index is the front of the whole
callout-front : (s : Script) (i : ℕ) (lines : List Line) (k : ℕ) → AreLinesOf s lines → take (passing (λ l. same_place l.place (place.Timer i)) (take k lines)) (callout_history i lines) ≡ callout_history i (take k lines)
callout-front s i lines k h =
    ap (λ n. take n (callout_history i lines)) (sym (callout-count s i (take k lines) (kinds s lines k h)))
    ∙ (ap (λ (ls : List Line). take (length (callout_history i (take k lines))) (callout_history i ls)) (sym (split lines k))
    ∙ (ap (take (length (callout_history i (take k lines)))) (filter_map-append (λ (l : Line). callout_entry_at i l.place l.entry) (take k lines) (drop k lines))
    ∙ take-front (callout_history i (take k lines)) (callout_history i (drop k lines))))

queue-front : (s : Script) (i : ℕ) (lines : List Line) (k : ℕ) → AreLinesOf s lines → take (passing (λ l. same_place l.place (place.Cpu i)) (take k lines)) (cpu_journal i lines) ≡ cpu_journal i (take k lines)
queue-front s i lines k h =
    ap (λ n. take n (cpu_journal i lines)) (sym (queue-count s i (take k lines) (kinds s lines k h)))
    ∙ (ap (λ (ls : List Line). take (length (cpu_journal i (take k lines))) (cpu_journal i ls)) (sym (split lines k))
    ∙ (ap (take (length (cpu_journal i (take k lines)))) (filter_map-append (λ (l : Line). queue_entry_at i l.place l.entry) (take k lines) (drop k lines))
    ∙ take-front (cpu_journal i (take k lines)) (cpu_journal i (drop k lines))))

seen-get : (s : Script) (above lines : List Line) (j : ℕ) (l : Line) → slice_get lines j ≡ Some l → slice_get (seen_from s above lines) j ≡ Some (seen_at s (above ++ take j lines) l)
seen-get s above [] j l h = cc
seen-get s above (x ∷ xs) zero l h = ap (λ y. Some (seen_at s above y)) (some-is x l h) ∙ ap (λ (ls : List Line). Some (seen_at s ls l)) (append-nil above) where
  append-nil : (ys : List Line) → ys ≡ ys ++ []
  append-nil [] = refl
  append-nil (y ∷ ys) = ap (λ zs. y ∷ zs) (append-nil ys)
seen-get s above (x ∷ xs) (suc j) l h = seen-get s (above ++ x ∷ []) xs j l h ∙ ap (λ (ls : List Line). Some (seen_at s ls l)) (append_assoc above (x ∷ []) (take j xs))

module _ (s : Script) (lists : List (List Note)) (lines : List Line) (formed : IsWellFormed lists) (of_script : AreLinesOf s lines) (show : Show lists lines) where
  abbrev H : Histories
  H = shown_histories lists

  listed-is : (j : ℕ) (l : Line) (p : Place) (pos : ℕ) → slice_get lines j ≡ Some l → l.place ≡ p → same_place p p ≡ true → lines_in p (take j lines) ≡ pos → is_queued s (take j lines ++ l ∷ []) p ≡ listed_after s H p pos
  listed-is j l (place.Timer i) pos at is here count =
      let up : passing (λ x. same_place x.place (place.Timer i)) (take (j + 1) lines) ≡ pos + 1 =
      ap (passing (λ x. same_place x.place (place.Timer i))) (front lines j l at)
      ∙ (passing-append (λ (x : Line). same_place x.place (place.Timer i)) (take j lines) (l ∷ [])
      ∙ (ap (λ b. passing (λ (x : Line). same_place x.place (place.Timer i)) (take j lines) + (cond b 1 0 + 0)) (ap (λ q. same_place q (place.Timer i)) is ∙ here)
      ∙ omega (arith, count, count-passing (λ (x : Line). same_place x.place (place.Timer i)) (take j lines)))) in
      ap (λ h. is_some (off (state (spec_at s i) h)))
      (ap (callout_history i) (sym (front lines j l at))
      ∙ (sym (callout-front s i lines (j + 1) of_script)
      ∙ (ap (λ n. take n (callout_history i lines)) up ∙ ap (take (pos + 1)) (show.callouts i))))
  listed-is j l (place.Cpu i) pos at is here count = refl
  listed-is j l (place.Actor i) pos at is here count = refl

  scans-is : (j : ℕ) (p : Place) (pos : ℕ) → lines_in p (take j lines) ≡ pos → scans_above (take j lines) p ≡ scans_before H p pos
  scans-is j (place.Timer i) pos count = refl
  scans-is j (place.Cpu i) pos count =
      ap scan_count (sym (queue-front s i lines j of_script)
      ∙ (ap (λ n. take n (cpu_journal i lines)) (sym (count-passing (λ (x : Line). same_place x.place (place.Cpu i)) (take j lines)) ∙ count) ∙ ap (take pos) (show.cpus i)))
  scans-is j (place.Actor i) pos count = refl

  -- the note of a number is seen
  seen-note : (a k : ℕ) (n : Note) → note_at lists a k ≡ Some n → (x : SeenLine) × (note_numbered (seen_lines s lines) a k ≡ Some x) × IsSeenAs s H n x
  seen-note a k n h =
      let r = show.each_note a k n h in
      let is = is-note lists lines formed show r.0 a k r.1 n r.2 in
      let slot : note_slot lines a k ≡ Some r.0 = index-is (is_note a k) 0 lines r.0 r.1 r.2.at is (first-one lists lines formed show r.0 a k r.1 r.2.at is) ∙ ap Some (omega arith) in (
        seen_at s (take r.0 lines) r.1,
        sym (note-found s lines a k) ∙ (ap (option_and_then (slice_get (seen_lines s lines))) slot ∙ seen-get s [] lines r.0 r.1 r.2.at),
        record {
          place = r.2.place;
          entry = r.2.entry;
          listed = listed-is r.0 r.1 r.1.place n.pos r.2.at refl (same-itself r.1.place) r.2.pos ∙ ap (λ p. listed_after s H p n.pos) r.2.place;
          scans = scans-is r.0 r.1.place n.pos r.2.pos ∙ ap (λ p. scans_before H p n.pos) r.2.place;
        },
      )

  -- no other number is
  no-note : (a k : ℕ) → note_at lists a k ≡ None → note_numbered (seen_lines s lines) a k ≡ None
  no-note a k none =
      sym (note-found s lines a k)
      ∙ ap (option_and_then (slice_get (seen_lines s lines)))
      (nothing (note_slot lines a k) (sym (any-index (is_note a k) 0 lines)
      ∙ none-any (is_note a k) lines (λ i x at h. (let r = shows lists lines formed show i a k x at h in let bad : Some r.0 ≡ None = sym r.1 ∙ none in cc)))) where
        nothing : (o : Option ℕ) → is_some o ≡ false → o ≡ None
        nothing None h = refl
        nothing (Some i) h = cc

  nothing-more : (a from c : ℕ) → ((k : ℕ) → from ≤ k → note_numbered (seen_lines s lines) a k ≡ None) → filter_map (note_numbered (seen_lines s lines) a) (range_with_len from c) ≡ []
  nothing-more a from zero none = refl
  nothing-more a from (suc c) none =
      ap (λ o. cons_option o (filter_map (note_numbered (seen_lines s lines) a) (range_with_len (from + 1) c))) (none from (omega arith)) ∙ nothing-more a (from + 1) c (λ k le. none k (omega arith))

  collect : (a from c : ℕ) (notes : List Note) → length notes ≤ c → ((k : ℕ) (n : Note) → slice_get notes k ≡ Some n → note_at lists a (from + k) ≡ Some n) → ((k : ℕ) → from + length notes ≤ k → note_at lists a k ≡ None)
      → AreSeenAs s H notes (filter_map (note_numbered (seen_lines s lines) a) (range_with_len from c))
  collect a from c [] few each none = subst (AreSeenAs s H []) (sym (nothing-more a from c (λ k le. no-note a k (none k (omega arith))))) tt
  collect a from zero (n ∷ ns) few each none = absurd (omega arith)
  collect a from (suc c) (n ∷ ns) few each none =
      let r = seen-note a from n (ap (note_at lists a) (start from) ∙ each zero n refl) in
      let rest = collect a (from + 1) c ns (omega arith) (λ k m at. ap (note_at lists a) (shifted from k) ∙ each (suc k) m at) (λ k le. none k (omega arith)) in
      subst (λ o. AreSeenAs s H (n ∷ ns) (cons_option o (filter_map (note_numbered (seen_lines s lines) a) (range_with_len (from + 1) c)))) (sym r.1) (r.2, rest) where
        start : (m : ℕ) → m ≡ m + zero
        start m = omega arith

        shifted : (m k : ℕ) → m + 1 + k ≡ m + suc k
        shifted m k = omega arith

  pub actor-seen : (a : ℕ) (notes : List Note) → slice_get lists a ≡ Some notes → AreSeenAs s H notes (lines_numbered (seen_lines s lines) a (lines_made_by a lines))
  actor-seen a notes is = collect a 0 (lines_made_by a lines) notes
      (count-enough lines a (length notes) (λ k below. (let n = some_note notes k below in stands lists lines formed show a k n.0 (ap (option_and_then (λ (ns : List Note). slice_get ns k)) is ∙ n.1))))
      (λ k n at. ap (note_at lists a) (start k) ∙ (ap (option_and_then (λ (ns : List Note). slice_get ns k)) is ∙ at))
      (λ k le. ap (option_and_then (λ (ns : List Note). slice_get ns k)) is ∙ slice_get_past notes k (omega arith)) where
        start : (m : ℕ) → 0 + m ≡ m
        start m = omega arith

        some_note : (ns : List Note) (k : ℕ) → k < length ns → (n : Note) × (slice_get ns k ≡ Some n)
        some_note [] k h = absurd (omega arith)
        some_note (x ∷ xs) zero h = (x, refl)
        some_note (x ∷ xs) (suc k) h = some_note xs k (omega arith)
