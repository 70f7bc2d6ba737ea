-- What is known of the actors that a step would leave as they are.
use Rattle.std.specs.Prelude.{◌≡◌, ℕ, ◌⊎◌, true, List, Bool, get_or}
use Rattle.co_lock.specs.declared.held.Held.{Held}
use Rattle.co_program.specs.declared.script.Script.{Script}
use Rattle.co_program.specs.Action.{Take, action_for}
use Rattle.co_program.specs.Cursor.{Cursor}
use Rattle.co_world.specs.Step.{step}
use Rattle.co_world.specs.Walk.{HasFinished}
use Rattle.co_world.specs.World.{World}
use Rattle.co_core.specs.declared.resting.Known.{Known}
use Rattle.co_core.specs.declared.resting.Known.TheVariants.{Nothing, Ended, Wants}
use Rattle.co_core.specs.declared.resting.Resting.{Resting}

-- the actor's next step takes this
abbrev pub TakesNext : Script → World → ℕ → Held → Type 0
TakesNext s w a held = (to : Cursor) × (action_for s a (w.actors a).cursor ≡ Take held to)

-- those that are known to have finished have
abbrev pub HaveEnded : Script → World → List Known → Type 0
HaveEnded s w known = (a : ℕ) → get_or known a Nothing ≡ Ended → HasFinished s w a

-- those that are known to want a hold take it next
abbrev pub TakeNext : Script → World → List Known → Type 0
TakeNext s w known = (a : ℕ) (held : Held) → get_or known a Nothing ≡ Wants held → TakesNext s w a held

-- what is known holds of this world
pub record IsKnown (s : Script) (w : World) (x : Resting) : Type 0 where
  pub ended : HaveEnded s w x.known
  pub wanted : TakeNext s w x.known

-- a step of the actor changes nothing; and it has finished, where that is so
pub record RestsStill (s : Script) (w : World) (a : ℕ) (ended : Bool) : Type 0 where
  pub idle : step s w a ≡ w
  pub finished : ended ≡ true → HasFinished s w a

-- of this actor nothing is known any more, and of each other nothing else than before
pub record IsForgotten (known : List Known) (a : ℕ) (known2 : List Known) : Type 0 where
  pub nothing : get_or known2 a Nothing ≡ Nothing
  pub others : (b : ℕ) → (get_or known2 b Nothing ≡ Nothing) ⊎ (get_or known2 b Nothing ≡ get_or known b Nothing)

-- this is known of the actor, and of each other what was
abbrev pub HasLearnt : List Known → ℕ → Known → List Known → Type 0
HasLearnt known a what known2 = (b : ℕ) → ((b ≡ a) × (get_or known2 b Nothing ≡ what)) ⊎ ((b ≡ a → ⊥) × (get_or known2 b Nothing ≡ get_or known b Nothing))
