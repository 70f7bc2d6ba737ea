-- What a listener hears of a run: its notes one by one, each with the actor that makes it.

-- notes in the order in which they are made: each actor's list, and each place's notes by position
pub mod MadeNotes
