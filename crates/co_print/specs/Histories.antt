-- The history of each place with the numbers of its notes: what a report shows.
use Rattle.std.specs.Prelude.{ℕ, ◌+◌, List, [], ◌∷◌, length, ◌==◌}
use Rattle.std.specs.List.{filter, find, flat_map, filter_map, range_with_len}
use Rattle.std.specs.Option.{option_map}
use Rattle.std.specs.declared.option.Option.{Option}
use Rattle.co_object.specs.declared.Place.{Place}
use Rattle.co_object.specs.declared.Note.{Note}
use Rattle.co_object.specs.Lists.{same_place}
use Rattle.co_notes.specs.declared.reading.notes.NumberedEntry.{NumberedEntry}

-- a note and its number in its actor's list
pub record Numbered : Type 0 where
  pub number : ℕ
  pub note : Note

abbrev pub numbered_from : ℕ → List Note → List Numbered
numbered_from k [] = []
numbered_from k (n ∷ ns) = record { number = k; note = n } ∷ numbered_from (k + 1) ns

-- the numbered notes of a place among those of an actor, and among all
abbrev pub numbered_of : Place → List Note → List Numbered
numbered_of place notes = filter (λ x. same_place x.note.place place) (numbered_from 0 notes)

abbrev pub all_numbered_of : Place → List (List Note) → List Numbered
all_numbered_of place lists = flat_map (numbered_of place) lists

-- what a report shows of a note
abbrev pub shown : Numbered → NumberedEntry
shown x = record { number = x.number; entry = x.note.entry }

-- the note at this position
abbrev pub shown_at : List Numbered → ℕ → Option NumberedEntry
shown_at notes pos = option_map shown (find (λ x. x.note.pos == pos) notes)

-- the history of a place, each entry with its number
abbrev pub shown_history : List (List Note) → Place → List NumberedEntry
shown_history lists place =
    let notes = all_numbered_of place lists in
    filter_map (shown_at notes) (range_with_len 0 (length notes))

-- the notes of each place, in order of their positions
abbrev pub PlaceHistories : Type 0
PlaceHistories = Place → List NumberedEntry
