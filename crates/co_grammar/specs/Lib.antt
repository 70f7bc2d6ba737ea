-- The lines of a script: the words of acts and of the frame, what a line states, and its ranges.

-- the words that begin a line, the order of the frame's lines, and which acts stand in which section
pub mod Keywords
-- the operands of acts: `+T` or `=T`, a timer's number or `me`, a CPU's number or `here`
pub mod Operands
-- the words of actors (`cN`, `pN`, `hN`), and turns: an actor, or an actor, `*` and a number
pub mod Turns
-- what a line after the first states, before its numbers are checked
pub mod Statements
-- the form of each line, word by word: acts, locks, timers, turns, the rest of the frame
pub mod Forms
-- the acts of one operand, by their verbs
pub mod LoneActs
-- whether what a line names exists and is in range, has the right kind of lock, and its time rises
pub mod Checks
-- the values, with numbers of any size, for which the reader's own types stand
pub mod Views
-- the words by which acts, the frame's lines and actors are written
pub mod Spelling
-- acts at the front of a text whose line isn't cut yet
pub mod Ahead
