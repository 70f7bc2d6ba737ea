-- A script's walk: its turns, then round robin until all have finished.
use Rattle.std.specs.Prelude.{◌≡◌, ℕ, zero, suc, ◌<◌, List, [], ◌∷◌}
use Rattle.co_object.specs.declared.Note.{Note}
use Rattle.co_program.specs.declared.Script.{Script}
use Rattle.co_program.specs.Actors.{actor_count, all_actors}
use Rattle.co_program.specs.Action.{Nothing, action_for}
use Rattle.co_world.specs.World.{World, open_world, lists_of}
use Rattle.co_world.specs.Step.{step}

-- a schedule: these actors step one after another
abbrev pub run : Script → World → List ℕ → World
run s w [] = w
run s w (a ∷ schedule) = run s (step s w a) schedule

-- a round: each actor steps once, in order of the actors' numbers
abbrev pub round : Script → World → World
round s w = run s w (all_actors s)

abbrev pub rounds : Script → World → ℕ → World
rounds s w zero = w
rounds s w (suc n) = rounds s (round s w) n

abbrev pub HasFinished : Script → World → ℕ → Type 0
HasFinished s w a = action_for s a (w.actors a).cursor ≡ Nothing

abbrev pub AllFinished : Script → World → Type 0
AllFinished s w = (a : ℕ) → a < actor_count s → HasFinished s w a

-- some number of rounds after the turns finishes all actors, with these lists of notes
pub record IsWalk (s : Script) (lists : List (List Note)) : Type 0 where
  pub number : ℕ
  pub finished : AllFinished s (rounds s (run s (open_world s) s.turns) number)
  pub written : lists ≡ lists_of s (rounds s (run s (open_world s) s.turns) number)
