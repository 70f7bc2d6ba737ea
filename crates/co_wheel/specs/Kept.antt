-- What every wheel keeps: what its slots have, and what they say of the callouts that are here.
use Rattle.std.specs.Prelude.{◌≡◌, ℕ, Bool, true}
use Rattle.std.specs.declared.option.Option.{Option}
use Rattle.std.specs.declared.option.Option.TheVariants.{Some, None}
use Rattle.co_object.specs.declared.alone.Alone.{Alone}
use Rattle.co_object.specs.Drain.{serviced}
use Rattle.co_object.specs.Queue.{Due}
use Rattle.co_object.specs.Stand.{is_free_at}
use Rattle.co_record.specs.declared.slot.DeferredArming.{DeferredArming}
use Rattle.co_record.specs.Deferred.{deferred_of}
use Rattle.co_wheel.specs.Callouts.{Callouts, callout, in_service}

-- the callout of this slot is here, is serviced by it with this arming, and is direct exactly where the slot is the interrupt's
pub record IsServing (direct : Bool) (c : Callouts) (d : Due) : Type 0 where
  pub alone : Alone
  pub here : callout c d.i ≡ Some alone
  pub lane : alone.spec.direct ≡ direct
  pub runs : serviced alone.state.run ≡ Some d.n

-- the callouts that are not idle are exactly those of the slots, each slot has at most one, and the interrupt's a direct one
pub record KeepsSlots (c : Callouts) : Type 0 where
  -- what a slot has is so
  pub slots : (direct : Bool) (d : Due) → in_service direct c ≡ Some d → IsServing direct c d
  -- what is in service here is in the slot of its lane
  pub busy : (i n : ℕ) (a : Alone) → callout c i ≡ Some a → serviced a.state.run ≡ Some n → in_service a.spec.direct c ≡ Some (record { i = i; n = n })
  -- and no other CPU services it
  pub here : (i : ℕ) (a : Alone) → callout c i ≡ Some a → is_free_at a.state.run c.cpu ≡ true

abbrev pub deferred_at : Option Alone → Option DeferredArming
deferred_at None = None
deferred_at (Some a) = deferred_of a.state

abbrev pub deferred_for : Callouts → Option Due → Option DeferredArming
deferred_for c None = None
deferred_for c (Some d) = deferred_at (callout c d.i)

-- the arming that waits for the end of the CPU's service, or of its interrupt's where `direct`
abbrev pub deferred_in : Bool → Callouts → Option DeferredArming
deferred_in direct c = deferred_for c (in_service direct c)
