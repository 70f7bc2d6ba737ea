-- `Timers`: a service with its client locks, whose clients and CPUs act through handles and get words.

-- the open service: its client locks, and which of them may be taken
pub mod Timers
-- a handle: what its actor has seen, and the number of its next act
pub mod Handles
-- what a call of a handle does: one reply of the callout alone, with the group of its notes
pub mod Acts
-- the words of each answer, and why a call is refused: then nothing has changed
pub mod Answers
-- a drain: tries that wait and one that does not, all of them one act
pub mod Drains
-- the calls of a function, through the port of its CPU's handle
pub mod Ports
-- the services of a CPU, or of its interrupt: one round for each callout that had come due
pub mod Rounds
-- a CPU's handle and its turn: a scan, the rounds of its interrupt, then its own
pub mod Turns
-- before and after: which actors have not left their posts, and which are back
pub mod Posts
