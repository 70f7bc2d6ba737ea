-- Where notes stand in the lists of the actors.
use Rattle.std.specs.Prelude.{ℕ, List, [], ◌∷◌, Option, Some, None, option_and_then, slice_get}
use Rattle.std.specs.List.{flat_map, filter_map}
use Rattle.std.specs.Option.{option_map}
use Rattle.co_object.specs.declared.AnyEntry.{AnyEntry}
use Rattle.co_object.specs.declared.Note.{Note}
use Rattle.co_text.specs.Values.{Word}
use Rattle.co_program.specs.declared.Script.{Script}
use Rattle.co_print.specs.declared.origin.Origin.{Origin}
use Rattle.co_notes.specs.NoteTexts.{note_words}

-- the note of this number in an actor's list
abbrev pub note_at : List (List Note) → ℕ → ℕ → Option Note
note_at lists actor number = option_and_then (λ notes. slice_get notes number) (slice_get lists actor)

abbrev pub note_from : List (List Note) → Origin → Option Note
note_from lists origin = note_at lists origin.actor origin.number

-- the entry of the note from an origin; where no note stands there is none
abbrev pub entry_from : List (List Note) → Origin → Option AnyEntry
entry_from lists origin = option_map (λ note. note.entry) (note_from lists origin)

-- the entries of the notes from these origins
abbrev pub entries_from : List (List Note) → List Origin → List AnyEntry
entries_from lists origins = filter_map (entry_from lists) origins

-- its line; where no note stands there is none
abbrev pub origin_line : Script → ℕ → Option Note → List (List Word)
origin_line s number (Some note) = note_words s number note.entry ∷ []
origin_line s number None = []

abbrev pub origin_lines : Script → List (List Note) → Origin → List (List Word)
origin_lines s lists origin = origin_line s origin.number (note_from lists origin)

-- the lines of the notes from these origins
abbrev pub lines_from : Script → List (List Note) → List Origin → List (List Word)
lines_from s lists origins = flat_map (origin_lines s lists) origins
