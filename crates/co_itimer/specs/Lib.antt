-- `Itimers`: interval timers (setitimer), one callout of a running service for each process.

-- the interval timers alone: what get, set, a tick and alarm answer and leave
pub mod Timers
-- the next time lies the least number of whole intervals on that brings it past now
pub mod Laws
-- the timers over a service: what stands between two calls, and what each call adds
pub mod Itimers
-- the expirations of one tick, one process after another
pub mod Serving
