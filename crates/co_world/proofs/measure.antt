-- What is left to do falls, so round robin ends.
pub mod Actors
pub mod Queues
pub mod Answers
pub mod Sections
pub mod Steps
pub mod Possible
pub mod Crowds
pub mod Opening
pub mod Walks
pub mod Rounds
