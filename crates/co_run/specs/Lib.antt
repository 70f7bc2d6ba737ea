-- A script's actors on threads over one running service, each with its passes and its list of notes.

-- what a run brings back: lists that are a run of the script, and show the service's final histories
pub mod Ran
-- an actor's notes of a place are its entries of the history, each at its position
pub mod Told
-- what an actor's notes show, by its passes: each entry that it made, place by place
pub mod Shown
-- histories that go on from what an actor has seen
pub mod Going
-- how an actor's cursor goes on after the notes of one section
pub mod Noted
-- a script and its locks have one proof each
pub mod Once
-- what is kept of an actor between two sections: cursor, passes, hold, what it serves, its notes
pub mod Acting
-- how many notes a stage may still make before its actor can ask for room
pub mod Roomy
-- the next act and the next notes have numbers left
pub mod Counted
-- actors whose programs are over
pub mod Over
-- an actor between two steps, and what a step keeps and gives
pub mod Ready
-- what the actors begin with and bring back, in groups: clients, CPUs, interrupts
pub mod Jobs
-- the calls that are made through a port, each with its answer
pub mod PortCalls
-- a port over a running service: what it was made with, and what it has made
pub mod Ports
