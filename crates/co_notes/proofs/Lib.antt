pub mod PartSplits
pub mod Exact
pub mod ExactValues
pub mod ExactActors
pub mod PlainParts
mod Keywords
pub mod ExactNames
pub mod ExactOperations
pub mod ExactReplies
pub mod ExactAnswers
pub mod ExactNotes
pub mod OneSpelling
mod NoteHeads
mod EntryHalves
