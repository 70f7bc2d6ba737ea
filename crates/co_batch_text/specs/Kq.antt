-- The command `kq`: its lines, and what it writes.

-- the language: `add` with ident, value and unit, `delete`, `tick`, `events`
pub mod Commands
-- what is written: each command is answered by the kevent list alone
pub mod Answers
-- what the run's service was used for: one scan a tick, and as many firings as the ticks count
pub mod Ends
