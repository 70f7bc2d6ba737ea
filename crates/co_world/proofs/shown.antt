-- The lists of notes show the world's histories, and their positions.
pub mod Histories
pub mod Lists
pub mod Positions
