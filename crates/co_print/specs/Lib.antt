-- The text of the report of lists: how lists of notes are written.

-- what a report shows: the history of each place, each entry with its number in its actor's list
pub mod Histories
-- the text of a report: its places in order, their headings and lines
pub mod Reports
-- where notes stand in the lists: the entry and the line of actor a's note k
pub mod Origins
-- the notes of all lists in the report's order, as the code sorts them: by place and position
pub mod Order
-- that lists are well formed is a fact of one proof, which a struct may keep
pub mod Once
-- each history is shown
pub mod Laws
