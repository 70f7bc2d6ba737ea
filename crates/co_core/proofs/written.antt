-- What the ledger has after a note, and who holds each lock.
pub mod Listed
pub mod Counting
pub mod After
pub mod Entries
pub mod There
pub mod Notes
pub mod LockHolders
