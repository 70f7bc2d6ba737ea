-- What has been written in a world: each actor's place and notes, and how long each history is. The ledger books all but the notes,
-- which a listener is told.
use Rattle.std.specs.Prelude.{◌≡◌, ℕ, ◌+◌, ◌<◌, Bool, List, [], ◌∷◌, ◌++◌, get_or, length, set}
use Rattle.std.specs.declared.option.Option.TheVariants.{None}
use Rattle.co_object.specs.declared.note.Note.{Note}
use Rattle.co_program.specs.declared.cursor.Cursor.{Cursor as CursorAt}
use Rattle.co_program.specs.declared.cursor.Stage.TheVariants.{Ready}
use Rattle.co_program.specs.declared.script.Script.{Script}
use Rattle.co_program.specs.Advance.{advance}
use Rattle.co_program.specs.declared.action.SilentStep.{SilentStep}
use Rattle.co_program.specs.Indexed.{ActsAreCounted, SilentCounts, cursor_of, after_silent}
use Rattle.co_program.specs.Scripts.{IsScript}

-- what is booked
pub record Booked : Type 0 where
  -- by actor: its place in its program
  pub cursors : List CursorAt
  -- by callout and by CPU: how many entries its history has
  pub histories : List ℕ
  pub journals : List ℕ
  -- by CPU: how many Scans its journal has
  pub scans : List ℕ
  -- by actor: how many notes of its own it has
  pub own : List ℕ
  -- how many notes there are
  pub made : ℕ

-- the same, and by actor its notes
pub record Written : Type 0 where
  pub cursors : List CursorAt
  pub lists : List (List Note)
  pub histories : List ℕ
  pub journals : List ℕ
  pub scans : List ℕ
  pub own : List ℕ
  pub made : ℕ

-- what is booked, beside these notes
abbrev pub with_lists : Booked → List (List Note) → Written
with_lists x lists = record { cursors = x.cursors; lists = lists; histories = x.histories; journals = x.journals; scans = x.scans; own = x.own; made = x.made }

abbrev pub first_cursor : CursorAt
first_cursor = record { task = 0; act = 0; time = 0; hold = None; stage = Ready; removed = None; parcel = None }

abbrev pub cursor_at : Written → ℕ → CursorAt
cursor_at x a = get_or x.cursors a first_cursor

abbrev pub list_at : Written → ℕ → List Note
list_at x a = get_or x.lists a []

-- the same of what is booked
abbrev pub booked_at : Booked → ℕ → CursorAt
booked_at x a = get_or x.cursors a first_cursor

abbrev pub put_cursor : Written → ℕ → CursorAt → Written
put_cursor x a to = record x { cursors = set x.cursors a to }

-- an actor has made these notes more
abbrev pub noted : List (List Note) → ℕ → List Note → List (List Note)
noted lists a notes = set lists a (get_or lists a [] ++ notes)

-- an actor of a sound script may go on in its program without a note
pub record MayMove (s : Script) (x : Booked) (a : ℕ) (to : SilentStep) : Type 0 where
  -- the script is a sound one
  pub script : IsScript s
  -- the actor has a place
  pub actor : a < length x.cursors
  -- no count of its acts wraps
  pub counted : SilentCounts (booked_at x a) to

-- an actor goes on in its program without a note
pub record HasGoneOn (s : Script) (a : ℕ) (move : SilentStep) (before after : Booked) : Type 0 where
  pub to : CursorAt
  pub place : cursor_of s a to ≡ after_silent (cursor_of s a (booked_at before a)) move
  pub counts : ActsAreCounted (booked_at before a) to 0
  pub went : after ≡ record before { cursors = set before.cursors a to }

-- an actor's note is booked, and it goes on in its program
pub record IsBooked (s : Script) (a : ℕ) (listed : Bool) (note : Note) (before after : Booked) : Type 0 where
  pub to : CursorAt
  pub place : cursor_of s a to ≡ advance s (cursor_of s a (booked_at before a)) listed note.place note.entry
  pub counts : ActsAreCounted (booked_at before a) to 1
  pub went : after ≡ record before { cursors = set before.cursors a to; made = before.made + 1 }

-- an actor has made a note, and goes on in its program
pub record IsNoted (s : Script) (a : ℕ) (listed : Bool) (note : Note) (before after : Written) : Type 0 where
  pub to : CursorAt
  pub place : cursor_of s a to ≡ advance s (cursor_of s a (cursor_at before a)) listed note.place note.entry
  pub counts : ActsAreCounted (cursor_at before a) to 1
  pub noted : after ≡ record before { cursors = set before.cursors a to; lists = noted before.lists a (note ∷ []); made = before.made + 1 }
