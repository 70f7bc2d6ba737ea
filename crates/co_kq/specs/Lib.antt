-- `Kq`: kevent timers (EVFILT_TIMER). Knotes in slots, each with a callout of a running service.

-- the kevent list alone: what add, delete, a tick and events do to the knotes and answer
pub mod Kevents
-- a kevent list whose knotes stand in slots
pub mod Slots
-- how the slab of the knotes changes, one slot at a time
pub mod Changes
-- the keys of slots by ident
pub mod Index
-- where the knotes of a slab stand by ident, and which of them have expirations
pub mod Listed
-- which callout each knote has, and what every list keeps between two calls
pub mod Numbers
-- how a tick serves the callouts that wait, one knote after another
pub mod Ticks
