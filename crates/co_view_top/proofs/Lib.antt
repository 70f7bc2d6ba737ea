pub mod Accepted
pub mod Writing
pub mod Said
pub mod Objects
