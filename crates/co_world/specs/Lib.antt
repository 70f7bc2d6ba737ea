-- The plain world: a script's callouts, queues and actors as definitions; what every schedule keeps.

-- the plain world and its opening: each callout's state and history, each queue, each actor
pub mod World
-- when an actor's next step has to wait: for a lock, for a callout that moves, for a service
pub mod Blocked
-- one step of one actor: the section of notes that it makes, and what it answers
pub mod Step
-- schedules and rounds; a script's walk: its turns, then round robin until all have finished
pub mod Walk
-- what the lists of notes are at every moment of a run: legal histories, well formed so far
pub mod SoFar
-- where the callouts stand, the queues' services and the actors' stages agree with each other
pub mod Placed
-- what is left to do, which falls with every step that is made, so that round robin ends
pub mod Measure
-- the laws of every schedule: legal histories, never stuck, finished actors follow, walks are runs
pub mod Laws
