-- An actor of a run between two steps of its program, and what a step keeps and gives.
use Rattle.std.specs.Prelude.{◌≡◌, ℕ, ◌+◌, ◌≤◌, Bool, true, List, None, Result, IfOk, OnErr, OnOk}
use Rattle.co_object.specs.declared.note.Note.{Note}
use Rattle.co_program.specs.declared.script.Script.{Script}
use Rattle.co_program.specs.Action.{Action, Nothing, action_for}
use Rattle.co_program.specs.Actors.{role_of}
use Rattle.co_program.specs.Cursor.{Cursor}
use Rattle.co_program.specs.Indexed.{SilentCounts, cursor_of}
use Rattle.co_program.specs.declared.action.SilentStep.{SilentStep}
use Rattle.co_program.specs.Stages.{Ready}
use Rattle.co_desk.specs.Name.{ServiceName}
use Rattle.co_run.specs.Acting.{HasAllScans, IsActing, ServesAsStage}
use Rattle.co_run.specs.Counted.{HasNumbers}
use Rattle.co_run.specs.Over.{IsActorOver}
use Rattle.co_run.specs.Roomy.{is_resting, room_at}
use Rattle.co_run.specs.declared.actor.Actor.{Actor}

-- where the actor is in its program
abbrev pub actor_cursor : {B : Type 0} → Script → Actor B → Cursor
actor_cursor s actor = cursor_of s actor.number actor.cursor

-- the actor can make its next step. `notes` and `spare` are what its book has and has room for; no function of the script
-- has more acts than `longest`
pub record IsReady {B : Type 0} (notes : B → List Note) (spare : B → ℕ) (s : Script) (longest : ℕ) (name : ServiceName) (actor : Actor B) : Type 0 where
  -- its passes, its hold and its notes are those of its place in its program
  pub acting : IsActing s name actor.number actor.passes (actor_cursor s actor) actor.hold (notes actor.book) actor.own
  -- its next act has a number, and so has each note that there is room for
  pub count : HasNumbers actor.cursor (notes actor.book) (spare actor.book)
  -- there is room for each note that it makes before it can ask for room
  pub room : room_at longest (actor_cursor s actor).stage ≤ spare actor.book

-- the actor's next step is this one
pub record IsDue {B : Type 0} (notes : B → List Note) (spare : B → ℕ) (s : Script) (longest : ℕ) (name : ServiceName) (actor : Actor B) (step : Action) : Type 0 where
  -- it can make its next step
  pub ready : IsReady notes spare s longest name actor
  -- which its program says is this one
  pub next : action_for s actor.number (actor_cursor s actor) ≡ step

-- and there is room for so many notes of the step
pub record HasRoomFor {B : Type 0} (notes : B → List Note) (spare : B → ℕ) (s : Script) (longest : ℕ) (name : ServiceName) (count : ℕ) (actor : Actor B) (step : Action) : Type 0 where
  -- this step is due
  pub due : IsDue notes spare s longest name actor step
  -- its book takes so many notes without asking for room
  pub room : count ≤ spare actor.book

-- the actor's next step is this one, a move without a note
pub record IsSilent {B : Type 0} (notes : B → List Note) (spare : B → ℕ) (s : Script) (longest : ℕ) (name : ServiceName) (actor : Actor B) (to : SilentStep) (step : Action) : Type 0 where
  -- this step is due
  pub due : IsDue notes spare s longest name actor step
  -- after the move the next act has a number still
  pub counted : SilentCounts actor.cursor to

-- the actor is between two services
pub record IsAtRest {B : Type 0} (notes : B → List Note) (spare : B → ℕ) (s : Script) (longest : ℕ) (name : ServiceName) (actor : Actor B) : Type 0 where
  -- it can make its next step
  pub ready : IsReady notes spare s longest name actor
  -- nothing is in service, and no function runs
  pub rests : is_resting (actor_cursor s actor).stage ≡ true

-- nothing of its program is left
abbrev pub HasFinishedProgram : {B : Type 0} → Script → Actor B → Type 0
HasFinishedProgram s actor = action_for s actor.number (actor_cursor s actor) ≡ Nothing

-- the same actor is ready again
pub record HasGoneOn {B : Type 0} (notes : B → List Note) (spare : B → ℕ) (s : Script) (longest : ℕ) (name : ServiceName) (old new : Actor B) : Type 0 where
  -- it can make its next step
  pub ready : IsReady notes spare s longest name new
  -- it is the actor that it was
  pub number : new.number ≡ old.number

-- it is ready again at this place in its program, after so many notes
pub record HasGoneTo {B : Type 0} (notes : B → List Note) (spare : B → ℕ) (s : Script) (longest : ℕ) (name : ServiceName) (count : ℕ) (old new : Actor B) (to : Cursor) : Type 0 where
  -- it can make its next step
  pub ready : IsReady notes spare s longest name new
  -- it is the actor that it was
  pub number : new.number ≡ old.number
  -- it is here in its program
  pub place : actor_cursor s new ≡ to
  -- its book has room for so many notes fewer
  pub spent : spare old.book ≡ spare new.book + count

-- it is ready again at this place in its program, without a note
pub record HasMoved {B : Type 0} (notes : B → List Note) (spare : B → ℕ) (s : Script) (longest : ℕ) (name : ServiceName) (old new : Actor B) (to : Cursor) : Type 0 where
  -- it can make its next step
  pub ready : IsReady notes spare s longest name new
  -- it is the actor that it was
  pub number : new.number ≡ old.number
  -- it is here in its program
  pub place : actor_cursor s new ≡ to
  -- its book is as it was
  pub book : new.book ≡ old.book

-- it is ready again after an attempt too, which fails between two services alone
pub record HasTried {B X E : Type 0} (notes : B → List Note) (spare : B → ℕ) (s : Script) (longest : ℕ) (name : ServiceName) (old new : Actor B) (result : Result X E) : Type 0 where
  -- it can make its next step, whatever came of this one
  pub gone_on : HasGoneOn notes spare s longest name old new
  -- where there was no room, it is between two services
  pub rests : OnErr result (is_resting (actor_cursor s new).stage ≡ true)

-- so it is after a step, whose answer is whether nothing is left
pub record HasStepped {B E : Type 0} (notes : B → List Note) (spare : B → ℕ) (s : Script) (longest : ℕ) (name : ServiceName) (old new : Actor B) (result : Result Bool E) : Type 0 where
  -- it can make its next step, whatever came of this one
  pub tried : HasTried notes spare s longest name old new result
  -- where the answer is so, nothing of its program is left
  pub over : IfOk result (λ over. over ≡ true → HasFinishedProgram s new)

-- and after its steps, of which none is left
pub record HasPlayedOn {B X E : Type 0} (notes : B → List Note) (spare : B → ℕ) (s : Script) (longest : ℕ) (name : ServiceName) (old new : Actor B) (result : Result X E) : Type 0 where
  -- it can make its next step, if it has one, and rests where there was no room
  pub tried : HasTried notes spare s longest name old new result
  -- where there was room, nothing of its program is left
  pub over : OnOk result (HasFinishedProgram s new)

-- it has left its program between two services
pub record HasLeft {B : Type 0} (s : Script) (old new : Actor B) : Type 0 where
  -- it is the actor that it was
  pub number : new.number ≡ old.number
  -- it holds no lock
  pub hold : new.hold ≡ None
  -- all Scans of its program are made
  pub scans : HasAllScans s (role_of s new.number) new.passes
  -- nothing is in its service
  pub free : ServesAsStage (role_of s new.number) new.passes Ready

-- it has played its whole program, or has left it
pub record HasPlayed {B X E : Type 0} (notes : B → List Note) (spare : B → ℕ) (s : Script) (name : ServiceName) (old new : Actor B) (result : Result X E) : Type 0 where
  -- it is the actor that it was
  pub number : new.number ≡ old.number
  -- where there was room, its program is over
  pub over : OnOk result (IsActorOver s name old.number new.passes (notes new.book))
  -- and each note that there is room for would have a number
  pub numbers : OnOk result (HasNumbers new.cursor (notes new.book) (spare new.book))
  -- where there was none, it has left it in order
  pub left : OnErr result (HasLeft s old new)
