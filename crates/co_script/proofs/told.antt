-- What the form of a line tells of what it states. Each lemma takes a reading apart into its steps, of which none was refused.
pub mod Steps
pub mod Times
pub mod Operands
pub mod Acts
pub mod Specs
pub mod Turns
pub mod Frames
