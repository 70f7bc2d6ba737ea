-- The notes of a script's walk, told as they are made.
use Rattle.std.specs.Prelude.{◌≡◌, ℕ, ◌<◌, ◌≤◌, Bool, true, List, length, map, Result, IfOk, OnOk}
use Rattle.std.specs.List.{range_with_len}
use Rattle.co_object.specs.declared.note.Place.{Place}
use Rattle.co_object.specs.declared.note.Place.TheVariants.{Actor, Cpu, Timer}
use Rattle.co_object.specs.Lists.{notes_of}
use Rattle.co_listener.specs.MadeNotes.{IsInOrder, MadeNote, list_by, lists_by, made_in}
use Rattle.co_program.specs.declared.script.Script.{Script}
use Rattle.co_program.specs.Actors.{actor_count}
use Rattle.co_program.specs.Scripts.{IsScript}
use Rattle.co_core.specs.declared.engine.Engine.{Engine}
use Rattle.co_core.specs.Acting.{Stands}
use Rattle.co_core.specs.Resting.{IsKnown}
use Rattle.co_core.specs.declared.resting.Resting.{Resting}
use Rattle.co_world.specs.Walk.{IsWalk}
use Rattle.co_world.specs.World.{World}

-- these notes, in this order, are those of the script's walk, and the positions of each place count in their order
pub record IsTelling (s : Script) (made : List MadeNote) : Type 0 where
  pub walk : IsWalk s (lists_by (actor_count s) made)
  pub order : IsInOrder made

-- ---- in the middle of a walk

-- how many entries the world's history of a place has
abbrev pub entry_count : World → Place → ℕ
entry_count w (Timer i) = length (w.timers i).history
entry_count w (Cpu cpu) = length (w.cpus cpu).journal
entry_count w (Actor a) = length (notes_of (Actor a) (w.actors a).notes)

-- these notes are those of the world's actors, and the positions of each place count in their order
pub record AreMade (s : Script) (w : World) (made : List MadeNote) : Type 0 where
  pub lists : (a : ℕ) → a < actor_count s → list_by made a ≡ (w.actors a).notes
  pub order : (here : Place) → map (λ note. note.pos) (made_in made here) ≡ range_with_len 0 (entry_count w here)

-- the engine stands for some world of a sound script, and its notes may be told to a listener of so many actors
pub record MayTell (s : Script) (e : Engine) (actors : ℕ) : Type 0 where
  pub script : IsScript s
  pub room : actor_count s ≤ actors
  pub world : World
  pub told : Stands s e world

-- what a step of this actor makes may be told too
pub record MayTellStep (s : Script) (e : Engine) (actors a : ℕ) : Type 0 where
  -- the engine does, and the listener
  pub may : MayTell s e actors
  -- the actor is one of the script's
  pub actor : a < actor_count s

-- a listener was told something
pub record IsToldTo {B X E : Type 0} (count : B → ℕ) (old new : B) (result : Result X E) (What : Type 0) : Type 0 where
  -- this, unless memory was wanting
  pub told : OnOk result What
  -- it is a listener of as many actors
  pub actors : count new ≡ count old

-- the listener has the notes of this world
pub record HasNotes (s : Script) {B : Type 0} (has : B → List MadeNote → Type 0) (book : B) (w : World) : Type 0 where
  pub made : List MadeNote
  pub holds : has book made
  pub are : AreMade s w made

-- the engine has come to this world, and a listener that had the notes of the one before has those of this one
pub record TellsOn (s : Script) {B : Type 0} (has : B → List MadeNote → Type 0) (e : Engine) (old new : B) (before after : World) : Type 0 where
  pub told : Stands s e after
  pub notes : HasNotes s has old before → HasNotes s has new after

-- the same from each world that it may stand for, and of what is known of the actors
abbrev pub GoesOnKnowing : (s : Script) {B : Type 0} (has : B → List MadeNote → Type 0) (e e2 : Engine) (old new : B) (known known2 : Resting) (after : World → World) → Type 0
GoesOnKnowing s has e e2 old new known known2 after = (w : World) → Stands s e w → IsKnown s w known → TellsOn s has e2 old new w (after w) × IsKnown s (after w) known2

-- actors were asked for steps, whose notes were told; the answer is whether they had ended
pub record HasAsked {B X : Type 0} (s : Script) (has : B → List MadeNote → Type 0) (count : B → ℕ) (e e2 : Engine) (old new : B) (known known2 : Resting) (result : Result Bool X) (after : World → World) (Ended : World → Type 0) : Type 0 where
  -- the engine has told all notes of some world
  pub world : OnOk result ((w : World) × Stands s e2 w)
  -- it has come from each world that it may have stood for to the one after the steps
  pub told : OnOk result (GoesOnKnowing s has e e2 old new known known2 after)
  -- where the answer is so, they had ended in the world before
  pub finished : IfOk result (λ finished. finished ≡ true → (w : World) → Stands s e w → IsKnown s w known → Ended w)
  -- the listener is one of as many actors
  pub actors : count new ≡ count old
