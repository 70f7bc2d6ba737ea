-- A script as a value: what each actor does next, which notes follow its program, and what a run is.

-- the actors by number: each one's role, its CPU, and the tasks of its program
pub mod Actors
-- what every accepted script keeps: its limits, and that the callouts and CPUs of its acts exist
pub mod Scripts
-- the callout and the operation that an act asks for, by time, CPU and callout in service
pub mod Calls
-- how far an act is: in a drain, before a pick, before a lock, in a function, before the end
pub mod Stages
-- an actor's place in its program: what is left, the clock, the hold, the stage, what it moves
pub mod Cursor
-- what an actor does next: a note, a step without one, a lock to take, or nothing more
pub mod Action
-- where a note leads in its actor's program
pub mod Advance
-- what `follows` means: the notes are those of the actor's whole program, each once and in order
pub mod Follows
-- the places of a script (timers, CPUs, actors), and lists whose notes stand in them
pub mod Places
-- what a run is: legal histories and journals, made of notes that follow each actor's program
pub mod Runs
-- the notes of a call, a drain, a function and a round of services, as they stand in a list
pub mod Groups
-- an actor's whole list, told by the acts of its program, without a cursor
pub mod Programs
-- the callouts and CPUs that a cursor, an action or a note names exist in the script
pub mod Existing
-- so do the functions and actors that notes name; and each queue's answer is of its operation
pub mod Names
-- what holds of every run: each actor's list is that of its program; calls, drains, rounds and soft acts stand as groups; where programs end
pub mod Laws
-- the cursor and the action as the code keeps them, by numbers, and what these stand for
pub mod Indexed
