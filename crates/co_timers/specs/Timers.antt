-- The open service with its client locks, as contracts see it.
use Rattle.std.specs.Prelude.{◌≡◌, ℕ, List}
use Rattle.std.specs.declared.option.Option.TheVariants.{Some}
use Rattle.co_lock.specs.declared.held.Held.{Held}
use Rattle.co_lock.specs.declared.lock_kind.LockKind.{LockKind}
use Rattle.co_lock.specs.Service.{hold_of}
use Rattle.co_desk.specs.declared.params.Params.{Params}
use Rattle.co_desk.specs.Params.{AreParams, spec_at}
use Rattle.co_lock.specs.Locks.{CanBeHeld}

pub record TimersView : Type 0 where
  pub params : Params
  -- by number: the kinds of the client locks
  pub locks : List LockKind

-- the lock that each callout's service takes exists
pub record HaveLocks (kinds : List LockKind) (p : Params) : Type 0 where
  pub each : (i : ℕ) (held : Held) → hold_of (spec_at p i).lock ≡ Some held → CanBeHeld kinds held.exclusive held.id

-- the service has these parameters, which are within the limits, and all locks that its callouts name are there
pub record AreTimers (service params : Params) (locks kinds : List LockKind) : Type 0 where
  pub same : service ≡ params
  pub kinds_are : kinds ≡ locks
  pub limits : AreParams params
  pub version : params.version ≡ 2
  pub locks_are : HaveLocks locks params
