-- Before the first step.
pub mod Shown
