-- The histories are legal: their replies, their actors, and runs as a whole.
pub mod Owners
pub mod ObjectReplies
pub mod Schedules
pub mod Runs
