-- The head and the lists of a canonical text of a script that fits, each read again: head, locks, timers and the three kinds of sections.
pub mod Fitting
pub mod Among
pub mod After
pub mod Heads
pub mod Locks
pub mod Timers
pub mod Sections
