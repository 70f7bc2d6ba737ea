-- The plain world: a script's callouts, CPUs and actors between two steps.
use Rattle.std.specs.Prelude.{ℕ, List, [], map, ◌==◌, if◌then◌else◌}
use Rattle.co_object.specs.declared.State.{State}
use Rattle.co_object.specs.declared.Entry.{Entry}
use Rattle.co_object.specs.declared.QEntry.{QEntry}
use Rattle.co_object.specs.declared.Note.{Note}
use Rattle.co_object.specs.Callout.{opening}
use Rattle.co_object.specs.Queue.{Queue, empty_queue}
use Rattle.co_program.specs.declared.Script.{Script}
use Rattle.co_program.specs.Actors.{all_actors}
use Rattle.co_program.specs.Cursor.{Cursor, start_of}
use Rattle.co_program.specs.Follows.{Histories}

pub record Timer : Type 0 where
  pub state : State
  -- the CPU where its record stands, or which it is leaving
  pub stand : ℕ
  pub history : List Entry

pub record Cpu : Type 0 where
  pub queue : Queue
  pub journal : List QEntry

-- an actor's hold and what it moves are part of its place in its program
pub record Actor : Type 0 where
  pub cursor : Cursor
  pub notes : List Note

-- by number; what the script doesn't have stays as it opens
pub record World : Type 0 where
  pub timers : ℕ → Timer
  pub cpus : ℕ → Cpu
  pub actors : ℕ → Actor

abbrev pub new_timer : Timer
new_timer = record { state = opening 0; stand = 0; history = [] }

abbrev pub new_cpu : Cpu
new_cpu = record { queue = empty_queue; journal = [] }

abbrev pub new_actor : Script → ℕ → Actor
new_actor s a = record { cursor = start_of s a; notes = [] }

-- every callout stands at CPU 0, no lock is held, and nobody has begun
abbrev pub open_world : Script → World
open_world s = record { timers = λ i. new_timer; cpus = λ cpu. new_cpu; actors = new_actor s }

abbrev pub lists_of : Script → World → List (List Note)
lists_of s w = map (λ a. (w.actors a).notes) (all_actors s)

abbrev pub histories_of : World → Histories
histories_of w = record { timers = λ i. (w.timers i).history; cpus = λ cpu. (w.cpus cpu).journal }

-- ---- one timer, CPU or actor changes

abbrev pub updated : {T : Type 0} → (ℕ → T) → ℕ → T → ℕ → T
updated f i x j = if j == i then x else f j

abbrev pub with_timer : World → ℕ → Timer → World
with_timer w i timer = record w { timers = updated w.timers i timer }

abbrev pub with_cpu : World → ℕ → Cpu → World
with_cpu w cpu new = record w { cpus = updated w.cpus cpu new }

abbrev pub with_actor : World → ℕ → Actor → World
with_actor w a actor = record w { actors = updated w.actors a actor }

abbrev pub with_cursor : World → ℕ → Cursor → World
with_cursor w a cursor = with_actor w a (record (w.actors a) { cursor = cursor })
