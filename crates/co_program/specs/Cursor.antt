-- An actor's place in its program.
use Rattle.std.specs.Prelude.{ℕ, List, Option, None}
use Rattle.co_lock.specs.declared.Held.{Held}
use Rattle.co_program.specs.declared.script.Script.{Script}
use Rattle.co_program.specs.declared.program.Task.{Task}
use Rattle.co_program.specs.Actors.{program_of, role_of}
use Rattle.co_program.specs.Stages.{Stage, Ready}
use Rattle.co_program.specs.declared.cursor.PendingInsert.{PendingInsert}

pub record Cursor : Type 0 where
  -- the acts that are not over; the first may be under way
  pub left : List Task
  -- the number of the next act to begin
  pub act : ℕ
  pub now : ℕ
  pub hold : Option Held
  pub stage : Stage
  -- the CPU from whose queue the call under way has just removed its callout
  pub removed : Option ℕ
  pub parcel : Option PendingInsert

-- before the first act
abbrev pub start_of : Script → ℕ → Cursor
start_of s a = record { left = program_of s (role_of s a); act = 0; now = 0; hold = None; stage = Ready; removed = None; parcel = None }
