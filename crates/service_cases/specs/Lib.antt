-- What the tests play on by hand, and what they write.

-- one client and callouts without locks, or one callout with a mutex
pub mod Scenes
-- entries of an actor and a value, where each value is the number of entries before it
pub mod Histories
-- two clients, two CPUs, and three callouts: without a lock, with a mutex, and direct
pub mod Timers
