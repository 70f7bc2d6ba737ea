-- Each actor's notes follow its program.
pub mod Cursors
pub mod SilentSteps
pub mod Traces
pub mod DueNotes
pub mod WholeCalls
pub mod Programs
