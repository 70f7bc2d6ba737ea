-- The program `callout_view`: which words are a view, and what each exit status promises.

-- for each status what was read and what was written
pub mod Headline
-- the words that are a view of a report, and the text of each view
pub mod Views
-- the usage line
pub mod Texts
-- the exit status by its number
pub mod Statuses
