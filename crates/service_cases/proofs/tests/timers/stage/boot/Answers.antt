-- The service is within the limits, and the lock that a callout names is there.
use Rattle.std.proofs.Common.{◌≡◌, ℕ, zero, suc, refl, arith, inl, inr, true, subst}
use Rattle.std.specs.declared.option.Option.TheVariants.{Some}
use Rattle.std.proofs.lemmas.List.Elements.{All-from_recursion}
use Rattle.co_lock.specs.declared.held.Held.{Held}
use Rattle.co_lock.specs.Service.{hold_of}
use Rattle.co_desk.specs.Params.{IsSpec, spec_at}
use Rattle.co_lock.specs.Locks.{CanBeHeld}
use Rattle.service_cases.specs.Timers.{scene, scene_locks, scene_specs}
use Rattle.service_cases.proofs.tests.timers.stage.boot.Goals as goal

has_lock : (i : ℕ) (held : Held) → hold_of (spec_at scene i).lock ≡ Some held → CanBeHeld scene_locks held.exclusive held.id
has_lock zero held h = absurd (cc)
has_lock (suc zero) held h =
    let first : Held = record { id = 0; exclusive = true } in
    let same : first ≡ held = cc in
    subst (λ (x : Held). CanBeHeld scene_locks x.exclusive x.id) same (omega arith)
has_lock (suc (suc zero)) held h = absurd (cc)
has_lock (suc (suc (suc i))) held h = absurd (cc)

pub boot-requires-clause-params : goal.boot-requires-clause-params
boot-requires-clause-params c d = record {
  version = inr refl;
  clients = omega arith;
  cpus = (omega arith, omega arith);
  buckets = (omega arith, omega arith, (4, refl));
  size = (omega arith, omega arith);
  specs = All-from_recursion (IsSpec 2) scene_specs
      (record { unlocked = λ _. refl; free = inl refl; later = λ _. refl }, (record { unlocked = λ h. absurd (cc); free = inl refl; later = λ _. refl }, (record { unlocked = λ _. refl; free = inr refl; later = λ h. absurd (omega arith) }, tt)));
}

pub boot-requires-clause-locks : goal.boot-requires-clause-locks
boot-requires-clause-locks c d = record { each = has_lock }
