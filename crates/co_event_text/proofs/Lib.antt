pub mod Until
pub mod Written
pub mod Rows
