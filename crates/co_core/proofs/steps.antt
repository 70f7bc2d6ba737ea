-- The other steps, what is never due, and when a step has to wait.
pub mod Silent
pub mod Undue
pub mod Waits
pub mod NextLock
pub mod Standing
pub mod Idle
