mod Rows
pub mod Places
pub mod Counts
pub mod Numbering
pub mod ShownHistories
pub mod Starts
pub mod Written
pub mod Counted
pub mod Spots
pub mod Room
pub mod Shows
pub mod Framed
pub mod PlaceLists
pub mod PartsWritten
pub mod PlacesAdded
