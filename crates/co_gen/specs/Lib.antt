-- The generator of scripts, and the counts of a run's armings by what became of them.

-- the draws, and the script of a seed: locks, callouts, functions, clients' groups, ticks
pub mod Generator
-- the counts of a run's notes: armings fired, superseded, stopped, pending; and their line
pub mod Soak
-- what an entry decides, as its reply tells
pub mod Fates
-- the same counts while notes are told one by one
pub mod Tally
-- generated scripts fit, and each accepted arming is counted once
pub mod Laws
