-- What an actor writes in the book: the history with its entry, and its passes then.
use Rattle.std.specs.Prelude.{◌≡◌, ◌<◌, [], ◌∷◌, ◌++◌}
use Rattle.std.specs.List.{All}
use Rattle.co_life.specs.Identity.{LifeId}
use Rattle.co_life.specs.Seen.{Extends}
use Rattle.co_life.specs.Views.{KeeperView}
use Rattle.co_sleepq.specs.declared.entry.SleepEntry.{SleepEntry}
use Rattle.co_sleepq.specs.History.{by}
use Rattle.co_sleepq.specs.Params.{actors}
use Rattle.co_sleepq.specs.Views.{SleepPassesView}

-- an actor's passes and the keeper of the book are of this life, so the actor may write
pub record AreTogether (life : LifeId) (p : SleepPassesView) (k : KeeperView SleepEntry) : Type 0 where
  pub passes_are : p.life ≡ life
  pub keeper_is : k.life ≡ life
  -- the book's actors are those of the service
  pub actors_are : k.actors ≡ actors p.service.params

-- an entry is written in the history
pub record IsWritten (p : SleepPassesView) (k : KeeperView SleepEntry) (e : SleepEntry) (q : SleepPassesView) (m : KeeperView SleepEntry) : Type 0 where
  -- it stands at the end, and nothing else of the keeper changes
  pub keeper_is : m ≡ record k { history = k.history ++ e ∷ [] }
  -- the actor has seen it and all before it, and nothing else of its passes changes
  pub passes_are : q ≡ record p { seen = k.history ++ e ∷ [] }
  -- between what the actor had seen and the entry stand entries of others alone
  pub extends : Extends by p.service.actor p.seen e (k.history ++ e ∷ [])
  -- each entry is of one of the book's actors
  pub others : All (λ x. by x < k.actors) (k.history ++ e ∷ [])
