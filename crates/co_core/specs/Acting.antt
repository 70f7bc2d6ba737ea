-- What an actor does in a step of the engine: before and after.
use Rattle.std.specs.Prelude.{◌≡◌, ℕ, ◌^◌, ◌≤◌, ◌<◌, ◌++◌, List, length, Result, IfOk}
use Rattle.std.specs.declared.option.Option.TheVariants.{None}
use Rattle.co_object.specs.declared.note.Note.{Note}
use Rattle.co_listener.specs.MadeNotes.{MadeNote}
use Rattle.co_program.specs.declared.script.Script.{Script}
use Rattle.co_program.specs.Action.{Action, action_for}
use Rattle.co_program.specs.Actors.{actor_count}
use Rattle.co_program.specs.Scripts.{IsScript}
use Rattle.co_world.specs.Blocked.{blocked}
use Rattle.co_world.specs.declared.turn.Turn.{Turn}
use Rattle.co_world.specs.Step.{step, turn_of}
use Rattle.co_world.specs.World.{World, lists_of}
use Rattle.co_core.specs.declared.engine.Engine.{Engine}
use Rattle.co_core.specs.Noting.{Listens, made_by}
use Rattle.co_core.specs.Stands.{StandsFor}
use Rattle.co_core.specs.Written.{noted, with_lists}

-- the engine stands for this world, whose actors have made these notes
abbrev pub StandsWith : Script → Engine → List (List Note) → World → Type 0
StandsWith s e lists w = StandsFor s (with_lists e.ledger lists) e.depot w

-- the engine stands for this world
abbrev pub Stands : Script → Engine → World → Type 0
Stands s e w = StandsWith s e (lists_of s w) w

-- it stands for some world of a sound script
pub record IsRunning (s : Script) (e : Engine) : Type 0 where
  pub script : IsScript s
  pub world : World
  pub stands : Stands s e world

-- the engine runs, and this actor is one of its script's
pub record RunsActor (s : Script) (e : Engine) (a : ℕ) : Type 0 where
  -- it stands for some world of a sound script
  pub running : IsRunning s e
  -- the script has the actor
  pub actor : a < actor_count s

-- this is what the actor does next, and nothing blocks it
pub record IsDue (s : Script) (w : World) (a : ℕ) (action : Action) : Type 0 where
  pub may : a < actor_count s
  pub due : action_for s a (w.actors a).cursor ≡ action
  pub free : blocked s w a ≡ None

-- the actor may do this now
pub record MayAct (s : Script) (e : Engine) (a : ℕ) (action : Action) : Type 0 where
  pub script : IsScript s
  -- the engine stands for this world, in which the action is due
  pub world : World
  pub lists : List (List Note)
  pub held : StandsWith s e lists world
  pub due : IsDue s world a action
  -- no count wraps
  pub few : e.ledger.made < 2 ^ 63

-- the actor has done this, with so many notes, of which a listener has been told
pub record HasActed {B : Type 0} (s : Script) (has : B → List MadeNote → Type 0) (a : ℕ) (action : Action) (number : ℕ) (e e2 : Engine) (old new : B) : Type 0 where
  -- of which a step makes at most three
  pub notes : List Note
  pub count : length notes ≡ number
  pub few : number ≤ 3
  -- from each world that the engine stood for, it stands for the one after the step
  pub stands : (lists : List (List Note)) (w : World) → StandsWith s e lists w → IsDue s w a action → StandsWith s e2 (noted lists a notes) (step s w a)
  pub heard : (made : List MadeNote) → has old made → has new (made ++ made_by a notes)

-- the actor may do this, and tell a listener of it
pub record MayDo {B : Type 0} (s : Script) (actors : B → ℕ) (e : Engine) (old : B) (a : ℕ) (action : Action) : Type 0 where
  -- it may do this now
  pub may : MayAct s e a action
  -- the listener has a place for its notes
  pub room : a < actors old

-- the actor has done this and told a listener of it, unless memory was wanting; the answer is with how many notes
pub record HasDone {B E : Type 0} (s : Script) (has : B → List MadeNote → Type 0) (actors room : B → ℕ) (a : ℕ) (action : Action) (e e2 : Engine) (old new : B) (result : Result ℕ E) : Type 0 where
  -- what it did, where there was memory
  pub acted : IfOk result (λ number. HasActed s has a action number e e2 old new)
  -- which was wanting only where the listener had no room for the notes of a step
  pub listens : Listens actors room 3 old new result

-- the actor has done this, which makes no note
abbrev pub GoesSilently : Script → ℕ → Action → Engine → Engine → Type 0
GoesSilently s a action e e2 = (lists : List (List Note)) (w : World) → StandsWith s e lists w → IsDue s w a action → StandsWith s e2 lists (step s w a)

-- the actor has stepped, and a listener has been told of the step's notes
pub record HasStepped {B : Type 0} (s : Script) (has : B → List MadeNote → Type 0) (a : ℕ) (turn : Turn) (e e2 : Engine) (old new : B) : Type 0 where
  pub notes : List Note
  -- from each world that the engine stood for, it stands for the one after the step
  pub stands : (lists : List (List Note)) (w : World) → StandsWith s e lists w → StandsWith s e2 (noted lists a notes) (step s w a)
  -- and answers as that tells
  pub tells : (lists : List (List Note)) (w : World) → StandsWith s e lists w → turn ≡ turn_of s w a
  pub heard : (made : List MadeNote) → has old made → has new (made ++ made_by a notes)
