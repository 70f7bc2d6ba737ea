-- The verdict on a report: `Legal`, or the first line that is wrong and why.

-- lines as they are read: each in a place of the script, of its kind, by one of its actors
pub mod Lines
-- what lines show: the history of each place, who made what, which callout stands in a queue
pub mod Shown
-- whether two operations, replies, answers and so on are the same
pub mod Same
-- what is wrong with a line of a history: its actor, its reply, or that it is not possible there
pub mod Replay
-- what is wrong with the notes' numbers: beyond the last, taken twice, or falling
pub mod Numbers
-- whether a note is what an actor asks for at a place in its program
pub mod Asking
-- the first note of an actor that its program does not give, and whether the program goes on
pub mod Astray
-- the verdict: histories first, then numbers, then programs, then whether all have ended
pub mod Verdict
-- where no line is unfit the histories are legal, and the other way around
pub mod Laws
-- no note is astray exactly where the actor's notes follow its program
pub mod Programs
-- the reports of runs are legal, and the lines of a legal report are those of a run
pub mod Runs
-- a CPU's queue in code: for which plain queues it stands, and how it answers
pub mod Cpu
-- what is said of a line besides what it shows, as the code keeps it
pub mod Facts
-- which line has a note, as the code keeps it
pub mod Slots
-- what the code keeps of the lines above: callouts, queues, Scans
pub mod Replayed
-- what the code keeps of the lines while they are read
pub mod Hearing
-- what the code keeps of the numbers above: which line has each note, the highest in each place
pub mod Index
-- where an actor's notes lead, as the code walks along them
pub mod Walked
