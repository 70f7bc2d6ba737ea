-- What an actor notes in a section is the next of its program.
pub mod InHistories
pub mod EachAnswer
pub mod ArmedReplies
pub mod Listed
pub mod CallGroups
pub mod ServiceNotes
pub mod ServiceReplies
pub mod GoesBack
