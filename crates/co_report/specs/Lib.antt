-- The text of a report: which notes it stands for, and its sections while notes are told. How lists of notes are written stands in co_print.

-- the sections of a report while its notes are told one by one
pub mod Sections
-- which lines a report of a script may have
pub mod LineFits
-- what the code's types say already of a note's values
pub mod Typed
-- the report that bytes stand for, or the first bad line and its cause
pub mod Reading
-- what the reader's own types stand for
pub mod ReadingViews
-- a report that is read line by line: what of it is still ahead
pub mod LineByLine
-- note lines in few bytes: their notes, and where the numbers of lines follow each other
pub mod PackedLines
-- a report reads back as its script and notes
pub mod Laws
