-- The notes of a run in the order in which they are made.
use Rattle.std.specs.Prelude.{◌≡◌, ℕ, ◌==◌, List, length, map}
use Rattle.std.specs.List.{filter, range_with_len}
use Rattle.co_object.specs.declared.note.Note.{Note}
use Rattle.co_object.specs.declared.note.Place.{Place}
use Rattle.co_object.specs.Lists.{notes_of}

-- a note, and the actor that makes it
pub record MadeNote : Type 0 where
  pub actor : ℕ
  pub note : Note

-- the notes alone
abbrev pub notes_made : List MadeNote → List Note
notes_made made = map (λ m. m.note) made

-- the notes of an actor, in their order
abbrev pub list_by : List MadeNote → ℕ → List Note
list_by made a = notes_made (filter (λ m. m.actor == a) made)

-- a list for each actor, by its number
abbrev pub lists_by : ℕ → List MadeNote → List (List Note)
lists_by actors made = map (list_by made) (range_with_len 0 actors)

-- the notes of a place, in their order
abbrev pub made_in : List MadeNote → Place → List Note
made_in made place = notes_of place (notes_made made)

-- the positions of each place count in this order: 0, 1, 2, ..
abbrev pub IsInOrder : List MadeNote → Type 0
IsInOrder made = (place : Place) → map (λ note. note.pos) (made_in made place) ≡ range_with_len 0 (length (made_in made place))
