-- What the ledger shows after a note, where the counts are right.
use Rattle.std.proofs.Common.{◌≡◌, ℕ, ◌+◌, ◌<◌, ◌≤◌, ◌⊎◌, inl, inr, Bool, List, [], ◌∷◌, ◌++◌, length, get_or, set, sym, ap, ◌∙◌, subst, arith, length-append, length-set}
use Rattle.std.proofs.lemmas.List.{get_or-set_same, get_or-set_other}
use Rattle.co_object.specs.declared.Note.{Note}
use Rattle.co_program.specs.declared.script.Script.{Script}
use Rattle.co_program.specs.declared.cursor.Cursor.{Cursor as CursorAt}
use Rattle.co_program.specs.Actors.{actor_count}
use Rattle.co_program.specs.Cursor.{Cursor}
use Rattle.co_program.specs.Advance.{advance}
use Rattle.co_program.specs.Indexed.{IsCounted, cursor_of}
use Rattle.co_world.specs.World.{World}
use Rattle.co_core.specs.Table.{table}
use Rattle.co_core.specs.Written.{Written, IsNoted, cursor_at, noted as noted_in, first_cursor}
use Rattle.co_core.specs.Stands.{ShowsWritten}
use Rattle.co_world.proofs.basics.Changes.{IsAt, decide, at_all}
use Rattle.co_world.proofs.kept.Invariant.{cursors_of}
use Rattle.co_core.proofs.tables.Values.{put, read, same}
use Rattle.co_core.proofs.written.Counting.{notes_by, own_by, entries_of, turns_of, scans_in}

module _ (s : Script) (x x2 : Written) (w w' : World) (a : ℕ) (listed : Bool) (note : Note) (histories journals scans own : List ℕ)
    (written : ShowsWritten s x w) (may : a < actor_count s)
    (noted : IsNoted s a listed note (record x { histories = histories; journals = journals; scans = scans; own = own }) x2)
    (cursors : IsAt (cursors_of w) a (advance s (cursors_of w a) listed note.place note.entry) (cursors_of w')) (notes : IsAt (notes_by w) a (notes_by w a ++ note ∷ []) (notes_by w'))
    (each_history : histories ≡ table (length s.timers) (entries_of w')) (each_journal : journals ≡ table s.cpus (turns_of w'))
    (each_scan : scans ≡ table s.cpus (scans_in w')) (each_own : own ≡ table (actor_count s) (own_by w'))
    (few_entries : (i : ℕ) → entries_of w' i ≤ x.made + 1) (few_turns : (cpu : ℕ) → turns_of w' cpu ≤ x.made + 1) (few_own : (b : ℕ) → own_by w' b ≤ x.made + 1) where
  abbrev cursors' : List CursorAt
  cursors' = set x.cursors a noted.to

  abbrev place' : ℕ → CursorAt
  place' b = get_or cursors' b first_cursor

  inside : a < length x.cursors
  inside = let l = written.cursors_long in omega arith

  place_here : place' a ≡ noted.to
  place_here = get_or-set_same x.cursors a noted.to first_cursor inside

  place_else : (b : ℕ) → (b ≡ a → ⊥) → place' b ≡ cursor_at x b
  place_else b other = get_or-set_other x.cursors a b noted.to first_cursor other

  each_place : (b : ℕ) → b < actor_count s → cursor_of s b (place' b) ≡ cursors_of w' b
  each_place b within = go (decide b a) where
    go : (b ≡ a) ⊎ (b ≡ a → ⊥) → cursor_of s b (place' b) ≡ cursors_of w' b
    go (inl same) =
        subst (λ k. cursor_of s k (place' k) ≡ cursors_of w' k) (sym same)
        (ap (cursor_of s a) place_here ∙ noted.place ∙ ap (λ (c : Cursor). advance s c listed note.place note.entry) (written.each_place a may) ∙ sym cursors.here)
    go (inr other) = ap (cursor_of s b) (place_else b other) ∙ written.each_place b within ∙ sym (cursors.else b other)

  counted : (b : ℕ) → b < actor_count s → IsCounted (place' b) (x.made + 1)
  counted b within = go (decide b a) where
    go : (b ≡ a) ⊎ (b ≡ a → ⊥) → IsCounted (place' b) (x.made + 1)
    go (inl same) =
        let before = written.counted a may in
        let counts = noted.counts in
        let after : IsCounted noted.to (x.made + 1) = omega (arith, before, counts) in
        subst (λ (p : CursorAt). IsCounted p (x.made + 1)) (sym (ap place' same ∙ place_here)) after
    go (inr other) =
        let before = written.counted b within in
        let after : IsCounted (cursor_at x b) (x.made + 1) = omega (arith, before) in
        subst (λ (p : CursorAt). IsCounted p (x.made + 1)) (sym (place_else b other)) after

  each_list : noted_in x.lists a (note ∷ []) ≡ table (actor_count s) (notes_by w')
  each_list =
      ap (λ (l : List Note). set x.lists a (l ++ note ∷ [])) (read x.lists (actor_count s) (notes_by w) a [] written.each_list may)
      ∙ put x.lists (actor_count s) (notes_by w) a (notes_by w a ++ note ∷ []) (notes_by w') written.each_list notes

  few_notes : (b : ℕ) → length (notes_by w' b) ≤ x.made + 1
  few_notes =
      at_all (λ b (l : List Note). length l ≤ x.made + 1) (notes_by w) a (notes_by w a ++ note ∷ []) (notes_by w') notes
      (let few = written.few_notes a in let more = length-append (notes_by w a) (note ∷ []) in omega (arith, few, more)) (λ b other. (let few = written.few_notes b in omega (arith, few)))

  pub written_after : ShowsWritten s x2 w'
  written_after = subst (λ (y : Written). ShowsWritten s y w') (sym noted.noted) (record {
    cursors_long = length-set x.cursors a noted.to ∙ written.cursors_long;
    each_place = each_place;
    each_list = each_list;
    each_history = each_history;
    each_journal = each_journal;
    each_scan = each_scan;
    each_own = each_own;
    counted = counted;
    few_entries = few_entries;
    few_turns = few_turns;
    few_notes = few_notes;
    few_own = few_own;
  })
