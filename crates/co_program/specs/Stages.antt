-- The stages of an act.
use Rattle.std.specs.Prelude.{ℕ, Bool, List, Option}
use Rattle.co_object.specs.declared.Next.{Next}
use Rattle.co_program.specs.declared.act.Act.{Act}
use Rattle.co_program.specs.declared.cursor.InService.{InService}

pub data Stage : Type 0 where
  -- between two acts
  Ready : Stage
  -- in a drain, which waits for the end of the service of arming n
  Waiting : (n : ℕ) (took : Bool) → Stage
  -- in a tick or a soft act, about to take the next callout from the queue
  Popping : (act : ℕ) → Stage
  -- in a service, about to pick the arming
  Picking : (v : InService) → Stage
  -- about to take the callout's lock
  Locking : (v : InService) → Stage
  -- under the lock, about to begin
  Beginning : (v : InService) → Stage
  -- about to release the lock, before the acts of a function that returns unlocked
  Unlocking : (v : InService) (acts : List Act) → Stage
  -- in the callout's function, of which these acts are left
  Firing : (v : InService) (acts : List Act) → Stage
  -- about to release the lock, after the function
  Releasing : (v : InService) → Stage
  -- about to end the service
  Ending : (v : InService) → Stage
  -- about to free the queue of it
  Freeing : (v : InService) (drain : Option ℕ) (next : Option Next) → Stage
  -- in the function of an asynchronous drain, of which these acts are left
  Drained : (v : InService) (acts : List Act) → Stage
