pub mod Pieces
pub mod Rows
pub mod Stories
pub mod Tallies
