-- A note has one spelling.
use Rattle.std.specs.Prelude.{◌≡◌, ◌↔◌, ℕ, true, List, Some, Ok}
use Rattle.co_object.specs.declared.Place.{Place}
use Rattle.co_program.specs.declared.Script.{Script}
use Rattle.co_script.specs.Fits.{fits}
use Rattle.co_notes.specs.declared.reading.notes.NumberedEntry.{NumberedEntry}
use Rattle.co_notes.specs.NoteTexts.{shown_words}
use Rattle.co_notes.specs.NoteValues.{names_of}
use Rattle.co_notes.specs.NoteForms.{shown_note}
use Rattle.co_notes.specs.NoteFits.{ShownFits}
use Rattle.co_notes.specs.Parts.{joined}

-- where a script fits, a line is read as a note of a place exactly where it is the text of this note, and the note fits the
-- place
abbrev pub NotesHaveOneSpelling : Type 0
NotesHaveOneSpelling = (s : Script) (place : Place) (line : List ℕ) (x : NumberedEntry) → fits s ≡ true → (shown_note (names_of s) (Some place) line ≡ Ok x) ↔ (ShownFits s place x × (line ≡ joined (shown_words s x)))
