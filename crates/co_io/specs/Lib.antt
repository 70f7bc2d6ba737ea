-- Sources and sinks of bytes, over std's readers and writers and in memory, and counts of their faults.

-- a count of faults: it never falls, and stands still at 2^64 - 1
pub mod Counts
-- a source over a reader and a sink over a writer: the end itself, and what went wrong there
pub mod Files
-- sources and sinks in memory, without faults or with faults at stated calls
pub mod Memory
-- the room of a sink: how many more bytes it takes, where it tells that
pub mod Room
-- what a sink has where not all bytes were written: a proper front of them
pub mod Writing
