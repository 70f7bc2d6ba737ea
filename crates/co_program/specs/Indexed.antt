-- A cursor as the code keeps it: what is left is told by how much of it is over.
use Rattle.std.specs.Prelude.{ℕ, ◌+◌, ◌-◌, ◌^◌, ◌≤◌, ◌<◌, ◌==◌, Bool, false, min, List, drop, None}
use Rattle.co_program.specs.declared.act.Act.{Act}
use Rattle.co_program.specs.declared.script.Script.{Script}
use Rattle.co_program.specs.declared.cursor.ActsLeft.{ActsLeft}
use Rattle.co_program.specs.declared.cursor.Stage.{Stage as StageAt}
use Rattle.co_program.specs.declared.cursor.Stage.TheVariants as at
use Rattle.co_program.specs.declared.cursor.Cursor.{Cursor as CursorAt}
use Rattle.co_program.specs.declared.action.Action.{Action as ActionAt}
use Rattle.co_program.specs.declared.action.Action.TheVariants as action
use Rattle.co_program.specs.declared.action.SilentStep.{SilentStep}
use Rattle.co_program.specs.declared.action.SilentStep.TheVariants as moves
use Rattle.co_program.specs.declared.role.Role.{Role}
use Rattle.co_program.specs.declared.role.Role.TheVariants.{Client, Cpu, Interrupt}
use Rattle.co_program.specs.Actors.{role_of, acts_at, program_of}
use Rattle.co_program.specs.Stages.{Stage, Ready, Waiting, Popping, Picking, Locking, Beginning, Unlocking, Firing, Releasing, Ending, Freeing, Drained}
use Rattle.co_program.specs.Cursor.{Cursor}
use Rattle.co_program.specs.Action.{Action, Nothing, Silent, Take, Asks, firing, over}
use Rattle.co_program.specs.Advance.{tail_of}

-- the acts of a function that are left
abbrev pub function_acts_left : Script → ActsLeft → List Act
function_acts_left s left = drop left.done (acts_at s.funcs left.func)

-- the acts of a role; a CPU that has soft acts has one for each of them
abbrev pub acts_of : Script → Role → List Act
acts_of s (Client c) = acts_at s.clients c
acts_of s (Cpu x) = acts_at s.ticks x
acts_of s (Interrupt x) = acts_at s.ticks x

abbrev pub is_soft : Script → Role → Bool
is_soft s (Client c) = false
is_soft s (Cpu x) = s.version == 2
is_soft s (Interrupt x) = false

abbrev pub stage_of : Script → StageAt → Stage
stage_of s at.Ready = Ready
stage_of s (at.Waiting n took) = Waiting n took
stage_of s (at.Popping act) = Popping act
stage_of s (at.Picking v) = Picking v
stage_of s (at.Locking v) = Locking v
stage_of s (at.Beginning v) = Beginning v
stage_of s (at.Unlocking v left) = Unlocking v (function_acts_left s left)
stage_of s (at.Firing v left) = Firing v (function_acts_left s left)
stage_of s (at.Releasing v) = Releasing v
stage_of s (at.Ending v) = Ending v
stage_of s (at.Freeing v drain next) = Freeing v drain next
stage_of s (at.Drained v left) = Drained v (function_acts_left s left)

-- the place that a role is at
abbrev pub cursor_as : Script → Role → CursorAt → Cursor
cursor_as s role c =
    record {
      left = drop c.task (program_of s role);
      act = c.act;
      now = c.time;
      hold = c.hold;
      stage = stage_of s c.stage;
      removed = c.removed;
      parcel = c.parcel;
    }

-- the stage to which a step without a note leads within an act
abbrev pub passed : Stage → Stage
passed (Locking v) = Beginning v
passed (Unlocking v acts) = firing v None acts
passed (Releasing v) = Ending v
passed stage = stage

-- the cursor after a step without a note
abbrev pub after_silent : Cursor → SilentStep → Cursor
after_silent c (moves.Over time hold) = record (over c (tail_of c.left) hold) { now = time }
after_silent c (moves.Within hold) = record c { hold = hold; stage = passed c.stage }
after_silent c moves.Ends = record c { hold = None; stage = Ready }

-- what a role does that is at this place
abbrev pub action_as : Script → Role → CursorAt → ActionAt → Action
action_as s role c action.Nothing = Nothing
action_as s role c (action.Silent to) = Silent (after_silent (cursor_as s role c) to)
action_as s role c (action.Take held to) = Take held (after_silent (cursor_as s role c) to)
action_as s role c (action.Asks act asked) = Asks act asked

-- the same of an actor
abbrev pub cursor_of : Script → ℕ → CursorAt → Cursor
cursor_of s actor c = cursor_as s (role_of s actor) c

abbrev pub action_of : Script → ℕ → CursorAt → ActionAt → Action
action_of s actor c a = action_as s (role_of s actor) c a

-- one more is over; past an end it stays there, since no list of acts is as long as the largest number
abbrev pub task_past : ℕ → ℕ
task_past over = min (over + 1) (2 ^ 32 - 1)

-- ---- the number of the next act

-- of the acts that have begun each is over in the program, or has made one of so many notes
abbrev pub IsCounted : CursorAt → ℕ → Type 0
IsCounted c notes = c.act ≤ c.task + notes

-- so it is of the acts that begin between two places, with so many notes made between them
abbrev pub ActsAreCounted : (from to : CursorAt) → ℕ → Type 0
ActsAreCounted from to notes = to.act + from.task ≤ from.act + to.task + notes

-- and a step without a note raises the number of the next act only with that of those that are over
abbrev pub SilentCounts : CursorAt → SilentStep → Type 0
SilentCounts c (moves.Over time hold) = (c.act < 2 ^ 64 - 1) × (c.task < 65536)
SilentCounts c (moves.Within hold) = Unit {0}
SilentCounts c moves.Ends = Unit {0}

abbrev pub ActionCounts : CursorAt → ActionAt → Type 0
ActionCounts c action.Nothing = Unit {0}
ActionCounts c (action.Silent to) = SilentCounts c to
ActionCounts c (action.Take held to) = SilentCounts c to
ActionCounts c (action.Asks act asked) = Unit {0}
