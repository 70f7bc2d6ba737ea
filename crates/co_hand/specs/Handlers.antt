-- What a handler needs of a port, what it is that it has run a function, and what it leaves of the port.
use Rattle.std.specs.Borrow.{MutBor}
use Rattle.std.proofs.Common.{inl, inr}
use Rattle.co_lock.specs.declared.held.Held.{Held}
use Rattle.std.specs.Prelude.{◌⊎◌, ⊤, Option, Some, ◌≡◌, ℕ, ◌<◌, ◌≤◌, List, length}
use Rattle.co_hand.specs.declared.fire.Fire.{Fire}
use Rattle.co_hand.specs.declared.port_call.PortCall.{PortCall}
use Rattle.co_hand.specs.Ports.{PortState, after_calls}

pub record Needs : Type 0 where
  -- how many callouts and CPUs its functions speak of
  pub callouts : ℕ
  pub cpus : ℕ
  -- how many calls it makes for a function, at most
  pub calls : ℕ → ℕ

-- the port serves the handler for this function: it has its callouts and CPUs, those of the fire among them, and room
pub record Serves {Origin : Type 0} (needs : Needs) (port : PortState Origin) (fire : Fire) (func : ℕ) : Type 0 where
  pub callouts : length port.specs ≡ needs.callouts
  pub cpus : port.cpus ≡ needs.cpus
  pub callout : fire.i < needs.callouts
  pub cpu : fire.cpu < needs.cpus
  pub room : needs.calls func ≤ port.room

-- a function has run: it made some calls, of which there are at most so many, the port is as it is after these, and they are what the
-- handler says that it is to run it. Where `drain` is none it is the function of the service, and else that of an asynchronous drain.
-- `runs` holds of the handler before and after, what was told, the hold, and exactly these calls
pub record HasRun {Handler Origin : Type 0} (runs : Handler → Fire → Option ℕ → Option Held → List PortCall → Handler → Type 0)
    (before : Handler) (fire : Fire) (drain : Option ℕ) (hold : Option Held) (most : ℕ) (old new : PortState Origin) (after : Handler) : Type 0 where
  pub calls : List PortCall
  pub few : length calls ≤ most
  pub made : new ≡ after_calls old calls
  pub ran : runs before fire drain hold calls after

-- a hold that was lent has come back as it was
abbrev pub HoldStays : Option (MutBor Held) → Unit {0} ⊎ ((MutBor Held × Unit {0}) ⊎ ⊥) → Type 0
HoldStays (Some old) (inr (inl new)) = new.0.now ≡ old.now
HoldStays old new = ⊤
