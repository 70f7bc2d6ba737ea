-- The sections of a service and of a queue: a scan, a pop, a begin and an end.
pub mod Queues
pub mod Picks
pub mod Underway
pub mod Begins
pub mod Lanes
pub mod Moves
pub mod Ends
