-- Notes in few bytes.

-- the operation, the reply and the place that a kind and its numbers stand for
pub mod Parts
-- the note that a packed note stands for
pub mod Unpacked
-- the operation and the reply of an entry, each by itself
pub mod Halves
-- what their types say of the values of notes
pub mod Typed
-- the bytes of a number
pub mod Numbers
-- the bytes of a row of numbers
pub mod Rows
-- the head of a note
pub mod Heads
-- the note that numbers stand for
pub mod Numbered
-- rows one behind another
pub mod Stored
