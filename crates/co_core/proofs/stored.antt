-- Where the records are after a section, and what the slots have.
pub mod Slots
pub mod Worlds
pub mod Sections
pub mod Places
pub mod Services
pub mod OnePlace
