-- The section of a call, and the landing of what it sends away.
pub mod Ends
pub mod Wheels
pub mod Removes
pub mod Calling
pub mod Entered
pub mod Outcomes
pub mod Section
pub mod Whole
pub mod Landing
