-- The callout alone and the timer queue alone: what each operation answers, which histories are legal.
-- The layers above keep, move and print such histories; what a callout does is said here alone.

-- where an arming stands, and when a reset is deferred: while another CPU services the callout
pub mod Stand
-- reset and schedule: what they replace or cancel, and when a drain that stands refuses them
pub mod Arm
-- what a stop answers: at rest, while the service waits for its lock, and while the function runs
pub mod Stop
-- what a try of a drain answers, done or wait; the asynchronous drain, and when it is busy
pub mod Drain
-- what `active` and `pending` answer; `deactivate`, after which it is not active
pub mod Query
-- retire, which a callout at rest alone accepts, and init, which makes it live again
pub mod Lifetime
-- the service: which arming may be picked, its begin under the lock, and what its end names
pub mod Serve
-- the whole callout: its opening, and for each operation the state after it and the reply
pub mod Callout
-- legal histories of any plain object: each entry may stand where it stands
pub mod Machine
-- who is who by number: the clients, then the CPUs, then in version 2 their interrupts
pub mod Actors
-- legal histories of a callout: each entry possible, with its reply, made by the actor who may
pub mod History
-- a CPU's timer queue: what waits, what has come due for the CPU or its interrupt, what is served
pub mod Queue
-- the order in which a scan takes what is due: bucket after bucket, in a bucket the newest first
pub mod Scan
-- what each operation on a queue answers, and the legal journals of a CPU
pub mod Journal
-- the notes of one call: Remove from a queue, the callout's entry, Insert into a queue
pub mod Group
-- the history of each place, out of all actors' lists of notes, and when lists are well formed
pub mod Lists
-- tests of entries: it arms, fires, stops, drains, ends a service, is of arming n
pub mod Entries
-- what becomes of an arming: fired, superseded, stopped, or pending yet
pub mod Fate
-- what holds of every legal history, a file for each law
pub mod Laws
