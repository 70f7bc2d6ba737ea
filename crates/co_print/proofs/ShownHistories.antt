-- What a report shows of a place is the place's history, but for the numbers of the notes.
use Rattle.std.proofs.Common.{◌≡◌, ℕ, suc, ◌==◌, Bool, true, false, cond, List, [], ◌∷◌, map, length, refl, ap, sym, ◌∙◌}
use Rattle.std.specs.Prelude.{Option, Some, None}
use Rattle.std.specs.List.{find, filter_map, cons_option, range_with_len}
use Rattle.std.specs.Option.{option_map}
use Rattle.co_object.specs.declared.AnyEntry.{AnyEntry}
use Rattle.co_object.specs.declared.Note.{Note}
use Rattle.co_object.specs.Lists.{entry_at}
use Rattle.co_print.specs.Histories.{Numbered, shown, shown_at, all_numbered_of}
use Rattle.co_notes.specs.declared.reading.notes.NumberedEntry.{NumberedEntry}
use Rattle.co_print.specs.Laws.{EachHistoryIsShown}
use Rattle.co_print.proofs.Numbering.{note_of, all-notes-of}

abbrev entry_of : NumberedEntry → AnyEntry
entry_of x = x.entry

-- the entry at a position, with its number or without
entry-at : (xs : List Numbered) (pos : ℕ) → option_map entry_of (shown_at xs pos) ≡ entry_at (map note_of xs) pos
entry-at [] pos = refl
entry-at (x ∷ xs) pos = at_test (x.note.pos == pos) (entry-at xs pos) where
  at_test : (b : Bool) → option_map entry_of (shown_at xs pos) ≡ entry_at (map note_of xs) pos →
      option_map entry_of (option_map shown (cond b (Some x) (find (λ y. y.note.pos == pos) xs))) ≡ option_map (λ note. note.entry) (cond b (Some x.note) (find (λ note. note.pos == pos) (map note_of xs)))
  at_test true rest = refl
  at_test false rest = rest

map-cons : (o : Option NumberedEntry) (xs : List NumberedEntry) → map entry_of (cons_option o xs) ≡ cons_option (option_map entry_of o) (map entry_of xs)
map-cons None xs = refl
map-cons (Some x) xs = refl

entries-at : (xs : List Numbered) (ks : List ℕ) → map entry_of (filter_map (shown_at xs) ks) ≡ filter_map (entry_at (map note_of xs)) ks
entries-at xs [] = refl
entries-at xs (k ∷ ks) =
    map-cons (shown_at xs k) (filter_map (shown_at xs) ks)
    ∙ (ap (λ o. cons_option o (map entry_of (filter_map (shown_at xs) ks))) (entry-at xs k)
    ∙ ap (λ es. cons_option (entry_at (map note_of xs) k) es) (entries-at xs ks))

length-map : (xs : List Numbered) → length (map note_of xs) ≡ length xs
length-map [] = refl
length-map (x ∷ xs) = ap suc (length-map xs)

abbrev entries : List Note → List AnyEntry
entries notes = filter_map (entry_at notes) (range_with_len 0 (length notes))

pub histories_shown : EachHistoryIsShown
histories_shown place lists =
    let xs : List Numbered = all_numbered_of place lists in
    entries-at xs (range_with_len 0 (length xs))
    ∙ (ap (λ n. filter_map (entry_at (map note_of xs)) (range_with_len 0 n)) (sym (length-map xs))
    ∙ ap entries (all-notes-of place lists))
