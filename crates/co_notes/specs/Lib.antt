-- The line of a note, both ways: the words that it is written by, and the note that a line shows.

-- the words of each operation, reply and note, such as `pop direct`, `go fF aA`, `K A/M X`
pub mod NoteTexts
-- the parts of a line between its spaces
pub mod Parts
-- what is read straight from the text of a line: `A/M`
pub mod Plain
-- words of notes as values, each in one spelling: `#N`, `iN`, `pN`, `uN`, codes, `A/M`
pub mod NoteValues
-- the note that a line shows: NoteTexts read the other way
pub mod NoteForms
-- which notes a report of a script may have: values in range, and names that exist
pub mod NoteFits
-- a note has one spelling
pub mod Laws
