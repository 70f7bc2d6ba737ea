pub mod Limits
pub mod Again
pub mod Widths
pub mod Nibbles
pub mod RowAgain
pub mod Tables
pub mod Renumbered
pub mod Storing
mod Makers
