-- The command `itimer`: its lines, and what it writes.

-- the language: `set` with value and interval, `get`, `alarm`, `tick`
pub mod Commands
-- what is written: each command is answered by the interval timers alone
pub mod Answers
-- what the run's service was used for: one scan a tick, and as many firings as the ticks count
pub mod Ends
