pub mod Counted
pub mod Merges
pub mod Stuck
pub mod Boards
