-- A CPU's callouts for a C program: each call refused exactly where it says, else answered by the callout.

-- a CPU's callouts with the two 64-bit words of each: its function and its drain's function
pub mod Embedded
-- why a call is refused, as a negative errno
pub mod Refusals
-- how large a wheel may be, and which ids are direct
pub mod Sizes
-- times and CPUs as numbers, and the words for home and here
pub mod Times
-- callouts that come (init), go (fini) and land from another CPU
pub mod Lives
-- a caller's operations: reset, schedule, stop, drains, queries
pub mod Calls
-- what the CPU does: advance, next, begin, end
pub mod Serving
-- replies as plain numbers: the C structure of each answer
pub mod Told
-- a parcel as plain numbers, and which numbers are one
pub mod Carrying
