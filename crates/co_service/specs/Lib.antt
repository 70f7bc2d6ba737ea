-- A running service, over the desks of its CPUs.

-- what a caller of the running service has before a section, and what it keeps
pub mod Kept
-- what boot makes of each place: its life, its keeper, and passes that have seen nothing
pub mod Booted
-- a service before its locks: the parts of a desk for each CPU; and a running one, with its desks
pub mod Fresh
-- whose passes are still in the boot's list, and whose are back
pub mod Crew
-- the end of a service: the final histories, and what each actor had seen of them
pub mod Closing
