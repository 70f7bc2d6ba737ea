-- The command `sleep`: its lines, and what it writes.

-- the language: `sleep` with sleeper, channel and ticks, `wakeup`, `wakeup1`, `awake`, `tick`
pub mod Commands
-- the sleep queue with a clock: each sleeper's timer, and what a tick ends
pub mod Clock
-- what is written: each command is answered by the sleep queue with a clock
pub mod Answers
-- what the run's service was used for: one scan a tick, and a call for each timer that came due
pub mod Ends
-- the passes of the one actor stand for the sleep queue with a clock
pub mod Matching
-- what the answering of a text begins with, and what it comes to
pub mod Running
