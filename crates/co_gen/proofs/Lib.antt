mod Rows
pub mod Drawing
pub mod Ranges
pub mod Fitting
pub mod OneToFire
pub mod FatesMet
pub mod Added
pub mod Totals
pub mod Terms
pub mod OneMoreCounted
pub mod AllCounted
