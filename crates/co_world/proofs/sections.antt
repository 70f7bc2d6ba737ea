-- What a section changes, and who is moving or serving a callout.
pub mod Movers
pub mod Ways
pub mod Servers
pub mod Slots
