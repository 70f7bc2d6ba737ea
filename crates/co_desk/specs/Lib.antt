-- The desks of a service: each CPU has one, with its wheel and the histories of the callouts there.
-- Each actor has passes: what it has seen of every callout and CPU, to which each of its calls adds.

-- what is fixed of a service: version, clients, CPUs, buckets, each callout's spec; the limits
pub mod Params
-- a service's name: the identities of the lives of its callouts and of its CPUs
pub mod Name
-- an actor's passes as contracts see them: what it has seen of each callout and each CPU
pub mod Views
-- the two kinds of places, the callouts and the CPUs
pub mod Kinds
-- what an entry, or the notes of a section, add to the passes of the actor that makes them
pub mod Writes
-- a caller's operation section by section: its reply, its notes, and what leaves for another CPU
pub mod Call
-- what a scan tells: its count, and how many entries it looks at
pub mod Outcomes
-- what an actor has in service and how far that is, told by its own entries alone
pub mod Serving
-- the sections of a service: take the next that is due, begin, end, land what the end sends on
pub mod Services
-- a shared history with its opening entries, which say of which service and place it is
pub mod Lines
-- what a shared history may be: a legal history of its callout, a legal journal of its CPU
pub mod Stories
-- one actor's passes of many places, with the lives of these places
pub mod Seats
-- an actor's passes are compared with the history of a place
pub mod Meeting
-- a desk's books: the journal of its CPU, and the histories of the callouts that stand there
pub mod Books
-- which entry may stand next at a desk, by the queue after the journal and each callout's state
pub mod May
-- how the journal ties to the desk: its wheel shows the queue after it, its records the histories
pub mod Desk
-- what a section writes at a desk: the books after it, and the passes of the actor that wrote
pub mod Written
-- a callout on its way from desk to desk, by value, with its history
pub mod Moving
-- what the end of a service did, in few words: its notes, and what leaves
pub mod Ends
-- what a desk answers that was asked for a section, and why where it doesn't answer
pub mod Asked
