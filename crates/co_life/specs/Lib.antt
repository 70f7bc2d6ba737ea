-- A history that actors share: its keeper has the whole, and each actor's pass what it has seen of it.

-- the identity of a life, which its keeper and passes carry, and no other life has
pub mod Identity
-- a keeper (the whole history) and a pass (what its actor has seen), as contracts see them
pub mod Views
-- an actor's own entries; a history begins with what was seen, and a new entry ends it
pub mod Seen
-- the rule of a shared history: each actor has one pass, which has seen all entries of its own
pub mod Rule
-- what each step does to keeper and pass: deal a pass, let it in, look, add an entry, let it out
pub mod Steps
