-- What the proofs about the plain world stand on: changed functions, lists, ranges, sums, roles, and what may be due.
pub mod Updates
pub mod Prefixes
pub mod Sums
pub mod Actions
pub mod Changes
pub mod Ranges
pub mod Roles
