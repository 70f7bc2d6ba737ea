-- What the ledger shows after a note: of a callout, of a queue, or of the actor's own; and after a step without a note.
use Rattle.std.proofs.Common.{◌≡◌, ℕ, ◌+◌, ◌<◌, ◌⊎◌, inl, inr, Bool, true, false, List, [], ◌∷◌, ◌++◌, length, get_or, set, refl, sym, ap, ◌∙◌, subst, arith, length-set, eq-eqb, Some, None}
use Rattle.std.specs.Prelude.{is_some}
use Rattle.std.proofs.lemmas.List.{get_or-set_same, get_or-set_other}
use Rattle.co_object.specs.declared.State.{State}
use Rattle.co_object.specs.declared.Reply.{Reply}
use Rattle.co_object.specs.declared.Op.{Op}
use Rattle.co_object.specs.declared.OwnKind.{OwnKind}
use Rattle.co_object.specs.declared.QOp.{QOp}
use Rattle.co_object.specs.declared.QReply.{QReply}
use Rattle.co_object.specs.declared.Entry.{Entry}
use Rattle.co_object.specs.declared.QEntry.{QEntry}
use Rattle.co_object.specs.declared.Note.{Note}
use Rattle.co_object.specs.declared.Place.TheVariants as place
use Rattle.co_object.specs.declared.AnyEntry.TheVariants as entry
use Rattle.co_object.specs.Stand.{off}
use Rattle.co_object.specs.Entries.{is_armed}
use Rattle.co_object.specs.Lists.{notes_of}
use Rattle.co_object.specs.Queue.{Queue as TimerQueue}
use Rattle.co_program.specs.declared.script.Script.{Script}
use Rattle.co_program.specs.declared.cursor.Cursor.{Cursor as CursorAt}
use Rattle.co_program.specs.Actors.{actor_count}
use Rattle.co_program.specs.Cursor.{Cursor}
use Rattle.co_program.specs.Advance.{advance}
use Rattle.co_program.specs.Follows.{scan_count, one_scan}
use Rattle.co_program.specs.Indexed.{IsCounted, ActsAreCounted, cursor_of}
use Rattle.co_world.specs.World.{World, Actor, Timer, Cpu, with_cursor}
use Rattle.co_world.specs.Step.{notes_down, enters, enters_journal, note_of, note_of_cpu, note_of_own, callout_answers, queue_answers, own_note}
use Rattle.co_core.specs.Written.{Written, IsNoted, cursor_at, put_cursor, first_cursor}
use Rattle.co_core.specs.Stands.{ShowsWritten}
use Rattle.co_world.proofs.basics.Updates.{at_updated}
use Rattle.co_world.proofs.basics.Changes.{IsAt, decide, at_read, at_updated_is, note_at, cursor_at as place_at_is}
use Rattle.co_world.proofs.kept.Invariant.{cursors_of}
use Rattle.co_core.proofs.written.Listed.{relisted}
use Rattle.co_core.proofs.tables.Values.{put, read, same}
use Rattle.co_core.proofs.written.Counting.{notes_by, own_by, entries_of, turns_of, scans_in, notes_at, own_same, more_by_one, rises, stays_few, entries_landed, one_own}
use Rattle.co_core.proofs.written.After.{written_after}
use Rattle.co_world.proofs.kept.QueueNotes.{scans_more}

abbrev pub callout_note : (a act i pos : ℕ) → Op → Reply → Note
callout_note a act i pos op reply = record { place = place.Timer i; pos = pos; entry = entry.Timer (record { actor = a; act = act; op = op; reply = reply }) }

pub written_callout : (s : Script) (x x2 : Written) (w : World) (a act i pos : ℕ) (op : Op) (o : State × Reply) (listed : Bool) →
    ShowsWritten s x w → a < actor_count s → i < length s.timers → (is_armed o.1 ≡ true → listed ≡ is_some (off o.0)) → pos ≡ get_or x.histories i 0 →
    IsNoted s a listed (callout_note a act i pos op o.1) (record x { histories = set x.histories i (pos + 1) }) x2 →
    ShowsWritten s x2 (callout_answers s w a act i op (Some o))
written_callout s x x2 w a act i pos op o listed written may known is at noted =
    written_after s x x2 w w' a (is_some (off o.0)) (note_of w i made) (set x.histories i (pos + 1)) x.journals x.scans x.own written may noted'
    (note_at s v a (is_some (off o.0)) (note_of w i made)) noted_at
    (put x.histories (length s.timers) (entries_of w) i (pos + 1) (entries_of w') written.each_history (record { here = entries.here ∙ ap (λ n. n + 1) (sym number); else = entries.else }))
    written.each_journal written.each_scan (written.each_own ∙ same (actor_count s) (own_by w) (own_by w') (λ b within. own b))
    (rises (entries_of w) i (entries_of w') x.made entries written.few_entries) (stays_few (turns_of w) (turns_of w') x.made (λ cpu. refl) written.few_turns)
    (stays_few (own_by w) (own_by w') x.made own written.few_own) where
      made : Entry
      made = record { actor = a; act = act; op = op; reply = o.1 }

      v : World
      v = enters w i o.0 made

      w' : World
      w' = notes_down s v a (is_some (off o.0)) (note_of w i made)

      number : pos ≡ entries_of w i
      number = at ∙ read x.histories (length s.timers) (entries_of w) i 0 written.each_history known

      noted' : IsNoted s a (is_some (off o.0)) (note_of w i made) (record x { histories = set x.histories i (pos + 1) }) x2
      noted' =
          let here = subst (λ (p : ℕ). IsNoted s a listed (callout_note a act i p op o.1) (record x { histories = set x.histories i (pos + 1) }) x2) number noted in
          record { to = here.to; place = here.place ∙ listing (cursor_of s a (cursor_at x a)) (is_armed o.1) refl; counts = here.counts; noted = here.noted } where
            listing : (c : Cursor) (b : Bool) → is_armed o.1 ≡ b → advance s c listed (place.Timer i) (entry.Timer made) ≡ advance s c (is_some (off o.0)) (place.Timer i) (entry.Timer made)
            listing c true h = ap (λ (l : Bool). advance s c l (place.Timer i) (entry.Timer made)) (is h)
            listing c false h = relisted s (record c { removed = None }) i listed (is_some (off o.0)) op o.1 c.stage h

      noted_at : IsAt (notes_by w) a (notes_by w a ++ note_of w i made ∷ []) (notes_by w')
      noted_at = notes_at s v a (is_some (off o.0)) (note_of w i made)

      own : (b : ℕ) → own_by w' b ≡ own_by w b
      own = own_same s w w' a (note_of w i made) noted_at refl

      new : Timer
      new = record { state = o.0; stand = (w.timers i).stand; history = (w.timers i).history ++ made ∷ [] }

      entries : IsAt (entries_of w) i (entries_of w i + 1) (entries_of w')
      entries =
          let at : IsAt (entries_of w) i (length new.history) (entries_of w') = at_read (λ (t : Timer). length t.history) w.timers i new v.timers (at_updated_is w.timers i new) in
          record { here = at.here ∙ more_by_one (w.timers i).history made; else = at.else }

abbrev pub queue_note : (a act cpu pos : ℕ) → QOp → QReply → Note
queue_note a act cpu pos op reply = record { place = place.Cpu cpu; pos = pos; entry = entry.Cpu (record { actor = a; act = act; op = op; reply = reply }) }

pub written_queue : (s : Script) (x x2 : Written) (w : World) (a act cpu pos scans : ℕ) (op : QOp) (o : TimerQueue × QReply) →
    ShowsWritten s x w → a < actor_count s → cpu < s.cpus → pos ≡ get_or x.journals cpu 0 → scans ≡ get_or x.scans cpu 0 →
    IsNoted s a false (queue_note a act cpu pos op o.1) (record x { journals = set x.journals cpu (pos + 1); scans = set x.scans cpu (scans + one_scan op) }) x2 →
    ShowsWritten s x2 (queue_answers s w a act cpu op (Some o))
written_queue s x x2 w a act cpu pos scans op o written may known at at_scans noted =
    written_after s x x2 w w' a false (note_of_cpu w cpu made) x.histories (set x.journals cpu (pos + 1)) (set x.scans cpu (scans + one_scan op)) x.own written may noted'
    (note_at s v a false (note_of_cpu w cpu made)) noted_at
    (written.each_history ∙ same (length s.timers) (entries_of w) (entries_of w') (λ j within. entries_landed w cpu op j))
    (put x.journals s.cpus (turns_of w) cpu (pos + 1) (turns_of w') written.each_journal (record { here = turns.here ∙ ap (λ n. n + 1) (sym number); else = turns.else }))
    (put x.scans s.cpus (scans_in w) cpu (scans + one_scan op) (scans_in w') written.each_scan (record { here = scanned.here ∙ ap (λ n. n + one_scan op) (sym scan_number); else = scanned.else }))
    (written.each_own ∙ same (actor_count s) (own_by w) (own_by w') (λ b within. own b))
    (stays_few (entries_of w) (entries_of w') x.made (entries_landed w cpu op) written.few_entries) (rises (turns_of w) cpu (turns_of w') x.made turns written.few_turns)
    (stays_few (own_by w) (own_by w') x.made own written.few_own) where
      made : QEntry
      made = record { actor = a; act = act; op = op; reply = o.1 }

      v : World
      v = enters_journal w cpu o.0 made

      w' : World
      w' = notes_down s v a false (note_of_cpu w cpu made)

      number : pos ≡ turns_of w cpu
      number = at ∙ read x.journals s.cpus (turns_of w) cpu 0 written.each_journal known

      scan_number : scans ≡ scans_in w cpu
      scan_number = at_scans ∙ read x.scans s.cpus (scans_in w) cpu 0 written.each_scan known

      noted' : IsNoted s a false (note_of_cpu w cpu made) (record x { journals = set x.journals cpu (pos + 1); scans = set x.scans cpu (scans + one_scan op) }) x2
      noted' = subst (λ (p : ℕ). IsNoted s a false (queue_note a act cpu p op o.1) (record x { journals = set x.journals cpu (pos + 1); scans = set x.scans cpu (scans + one_scan op) }) x2) number noted

      noted_at : IsAt (notes_by w) a (notes_by w a ++ note_of_cpu w cpu made ∷ []) (notes_by w')
      noted_at = notes_at s v a false (note_of_cpu w cpu made)

      own : (b : ℕ) → own_by w' b ≡ own_by w b
      own = own_same s w w' a (note_of_cpu w cpu made) noted_at refl

      new : Cpu
      new = record { queue = o.0; journal = (w.cpus cpu).journal ++ made ∷ [] }

      turns : IsAt (turns_of w) cpu (turns_of w cpu + 1) (turns_of w')
      turns =
          let at : IsAt (turns_of w) cpu (length new.journal) (turns_of w') = at_read (λ (c : Cpu). length c.journal) w.cpus cpu new v.cpus (at_updated_is w.cpus cpu new) in
          record { here = at.here ∙ more_by_one (w.cpus cpu).journal made; else = at.else }

      scanned : IsAt (scans_in w) cpu (scans_in w cpu + one_scan op) (scans_in w')
      scanned =
          let at : IsAt (scans_in w) cpu (scan_count new.journal) (scans_in w') = at_read (λ (c : Cpu). scan_count c.journal) w.cpus cpu new v.cpus (at_updated_is w.cpus cpu new) in
          record { here = at.here ∙ scans_more (w.cpus cpu).journal made; else = at.else }

abbrev pub own_entry : (a act pos : ℕ) → OwnKind → Note
own_entry a act pos kind = record { place = place.Actor a; pos = pos; entry = entry.Own (record { actor = a; act = act; kind = kind }) }

pub written_own : (s : Script) (x x2 : Written) (w : World) (a act pos : ℕ) (kind : OwnKind) →
    ShowsWritten s x w → a < actor_count s → pos ≡ get_or x.own a 0 →
    IsNoted s a false (own_entry a act pos kind) (record x { own = set x.own a (pos + 1) }) x2 →
    ShowsWritten s x2 (own_note s w a act kind)
written_own s x x2 w a act pos kind written may at noted =
    written_after s x x2 w w' a false (note_of_own s w a act kind) x.histories x.journals x.scans (set x.own a (pos + 1)) written may noted'
    (note_at s w a false (note_of_own s w a act kind)) noted_at
    written.each_history written.each_journal written.each_scan
    (put x.own (actor_count s) (own_by w) a (pos + 1) (own_by w') written.each_own (record { here = owns.here ∙ ap (λ n. n + 1) (sym number); else = owns.else }))
    (stays_few (entries_of w) (entries_of w') x.made (λ j. refl) written.few_entries) (stays_few (turns_of w) (turns_of w') x.made (λ j. refl) written.few_turns)
    (rises (own_by w) a (own_by w') x.made owns written.few_own) where
      w' : World
      w' = own_note s w a act kind

      number : pos ≡ own_by w a
      number = at ∙ read x.own (actor_count s) (own_by w) a 0 written.each_own may

      noted' : IsNoted s a false (note_of_own s w a act kind) (record x { own = set x.own a (pos + 1) }) x2
      noted' = subst (λ (p : ℕ). IsNoted s a false (own_entry a act p kind) (record x { own = set x.own a (pos + 1) }) x2) number noted

      noted_at : IsAt (notes_by w) a (notes_by w a ++ note_of_own s w a act kind ∷ []) (notes_by w')
      noted_at = notes_at s w a false (note_of_own s w a act kind)

      owns : IsAt (own_by w) a (own_by w a + 1) (own_by w')
      owns = record {
        here = ap (λ (l : List Note). length (notes_of (place.Actor a) l)) noted_at.here ∙ one_own a (notes_by w a) (note_of_own s w a act kind) (eq-eqb a a refl);
        else = λ b other. ap (λ (l : List Note). length (notes_of (place.Actor b) l)) (noted_at.else b other);
      }

-- ---- a step without a note

pub written_place : (s : Script) (x : Written) (w : World) (a : ℕ) (to : CursorAt) → ShowsWritten s x w → a < actor_count s → ActsAreCounted (cursor_at x a) to 0 → ShowsWritten s (put_cursor x a to) (with_cursor w a (cursor_of s a to))
written_place s x w a to written may counts = record {
  cursors_long = length-set x.cursors a to ∙ written.cursors_long;
  each_place = λ b within. each_place b within (decide b a);
  each_list = written.each_list ∙ same (actor_count s) (notes_by w) (notes_by w') (λ b within. sym (sym (notes b)));
  each_history = written.each_history;
  each_journal = written.each_journal;
  each_scan = written.each_scan;
  each_own = written.each_own ∙ same (actor_count s) (own_by w) (own_by w') (λ b within. own b);
  counted = λ b within. counted b within (decide b a);
  few_entries = written.few_entries;
  few_turns = written.few_turns;
  few_notes = λ b. (let e = ap length (notes b) in let few = written.few_notes b in omega (arith, e, few));
  few_own = λ b. (let e = own b in let few = written.few_own b in omega (arith, e, few));
} where
  w' : World
  w' = with_cursor w a (cursor_of s a to)

  notes : (b : ℕ) → notes_by w' b ≡ notes_by w b
  notes b = at_updated (λ k (x : Actor). x.notes ≡ notes_by w k) w.actors a (record (w.actors a) { cursor = cursor_of s a to }) b refl refl

  own : (b : ℕ) → own_by w' b ≡ own_by w b
  own b = ap (λ (l : List Note). length (notes_of (place.Actor b) l)) (notes b)

  inside : a < length x.cursors
  inside = let l = written.cursors_long in omega arith

  place_here : get_or (set x.cursors a to) a first_cursor ≡ to
  place_here = get_or-set_same x.cursors a to first_cursor inside

  each_place : (b : ℕ) → b < actor_count s → (b ≡ a) ⊎ (b ≡ a → ⊥) → cursor_of s b (cursor_at (put_cursor x a to) b) ≡ cursors_of w' b
  each_place b within (inl same) = subst (λ k. cursor_of s k (cursor_at (put_cursor x a to) k) ≡ cursors_of w' k) (sym same) (ap (cursor_of s a) place_here ∙ sym (place_at_is w a (cursor_of s a to)).here)
  each_place b within (inr other) = ap (cursor_of s b) (get_or-set_other x.cursors a b to first_cursor other) ∙ written.each_place b within ∙ sym ((place_at_is w a (cursor_of s a to)).else b other)

  counted : (b : ℕ) → b < actor_count s → (b ≡ a) ⊎ (b ≡ a → ⊥) → IsCounted (cursor_at (put_cursor x a to) b) x.made
  counted b within (inl same) =
      let before = written.counted a may in
      let after : IsCounted to x.made = omega (arith, before, counts) in
      subst (λ (p : CursorAt). IsCounted p x.made) (sym (ap (λ k. cursor_at (put_cursor x a to) k) same ∙ place_here)) after
  counted b within (inr other) = subst (λ (p : CursorAt). IsCounted p x.made) (sym (get_or-set_other x.cursors a b to first_cursor other)) (written.counted b within)
