-- The commands that answer line by line: their lines, and what they write.

-- what a run does to the service of one CPU that answers its commands, and what the service's end tells of it
pub mod Ends
-- the command `kq`
pub mod Kq
-- the command `sleep`
pub mod Sleep
-- the command `itimer`
pub mod Itimer
