-- What a function is told names what exists, and what a drain's is told is of the drain's function.
use Rattle.std.proofs.Common.{◌≡◌, ℕ, ◌<◌, List, refl, sym, subst}
use Rattle.std.specs.Prelude.{IfSome, unwrap_or}
use Rattle.std.specs.declared.option.Option.{Option}
use Rattle.std.specs.declared.option.Option.TheVariants.{Some, None}
use Rattle.co_hand.specs.declared.fire.Fire.{Fire}
use Rattle.co_hand.specs.declared.port_call.PortCall.{PortCall}
use Rattle.co_hand.specs.Handlers.{Needs}
use Rattle.co_lock.specs.declared.held.Held.{Held}
use Rattle.co_object.specs.Queue.{Due}
use Rattle.co_timers.specs.Handles.{HandleView}
use Rattle.co_timers.specs.Rounds.{DrainsIf, IsRun, fire_of}

exists : (d : Due) (cpu time cpus : ℕ) (call : Option (ℕ × ℕ)) → cpu < cpus → IfSome (fire_of d cpu time call) (λ f. (f.i ≡ d.i) × (f.cpu < cpus))
exists d cpu time cpus None low = tt
exists d cpu time cpus (Some call) low = (refl, low)

pub fire_exists : (d : Due) (cpu time cpus : ℕ) (call : Option (ℕ × ℕ)) (fire : Option Fire) → fire ≡ fire_of d cpu time call → cpu < cpus → IfSome fire (λ f. (f.i ≡ d.i) × (f.cpu < cpus))
fire_exists d cpu time cpus call fire is low = subst (λ (o : Option Fire). IfSome o (λ f. (f.i ≡ d.i) × (f.cpu < cpus))) (sym is) (exists d cpu time cpus call low)

module _ {H : Type 0} (needs : Needs) (runs : H → Fire → Option ℕ → Option Held → List PortCall → H → Type 0) where
  -- what the function of a drain is told may depend on it
  pub drains_told : (before : H) (fire : ℕ → Fire) (told : Fire) (drain : Option ℕ) (p : HandleView) (after : H) (q : HandleView) → told ≡ fire (unwrap_or drain 0)
      → DrainsIf needs runs before (λ _. told) drain p after q → DrainsIf needs runs before fire drain p after q
  drains_told before fire told None p after q is h = h
  drains_told before fire told (Some func) p after q is h = subst (λ (f : Fire). IsRun needs runs before f (Some func) None func p after q) is h
