-- Where an actor is in its program after a call, and after a step without a note.
pub mod AfterCalls
pub mod AfterSilentSteps
