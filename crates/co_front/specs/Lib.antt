-- What the two programs share at their front: the ends of a call, and the line that refuses an input.

-- what a call did to its source and its sink: all read or too much, all written or a front, a fault
pub mod Outside
-- the line that says which line of an input is bad, and why
pub mod Texts
