-- The program `callout`: which words are a command, and what each exit status promises.

-- for each status what was read, what was written, and what that text is
pub mod Headline
-- what an answered text of commands comes to
pub mod Outcomes
-- the words that are a command, and the texts of the program itself
pub mod Commands
-- the exit status by its number
pub mod Statuses
-- `check` calls legal what `steps` and `run` write
pub mod Laws
