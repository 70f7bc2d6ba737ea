pub mod SectionsWritten
pub mod ToldNotes
pub mod ToldShown
pub mod Pieces
pub mod ToldPages
pub mod LinesWhole
pub mod ScriptLines
pub mod ReadsBack
pub mod WholeBack
pub mod ShownFit
pub mod NotesFit
pub mod ReadFit
pub mod ReadLines
mod ReadRows
mod LinesEnded
mod LinesSame
mod LineByLine
mod LinesPacked
mod ReadTold
