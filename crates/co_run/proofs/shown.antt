-- The notes of an actor show what it has made in each place.
pub mod OwnEntries
pub mod OneMore
pub mod ThreeNotes
pub mod CallNotes
