-- Lists that show a function of the number, and options.
pub mod Options
pub mod Values
pub mod Copies
pub mod PutBack
