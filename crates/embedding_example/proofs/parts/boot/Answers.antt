-- The service is within the limits, and its callout names no lock.
use Rattle.std.proofs.Common.{◌≡◌, ℕ, zero, suc, refl, arith, inl, inr, []}
use Rattle.std.specs.Prelude.{false}
use Rattle.std.specs.declared.option.Option.TheVariants.{Some}
use Rattle.std.proofs.lemmas.List.Elements.{All-cons, All-nil}
use Rattle.co_lock.specs.declared.held.Held.{Held}
use Rattle.co_lock.specs.Service.{hold_of}
use Rattle.co_object.specs.declared.spec.LockUse.TheVariants.{Free}
use Rattle.co_desk.specs.Params.{IsSpec, spec_at}
use Rattle.co_lock.specs.Locks.{CanBeHeld}
use Rattle.embedding_example.specs.Example.{example}
use Rattle.embedding_example.proofs.parts.boot.Goals as goal

no_lock : (i : ℕ) (held : Held) → hold_of (spec_at example i).lock ≡ Some held → CanBeHeld [] held.exclusive held.id
no_lock zero held h = absurd (cc)
no_lock (suc i) held h = absurd (cc)

pub boot-requires-clause-params : goal.boot-requires-clause-params
boot-requires-clause-params c = record {
  version = inr refl;
  clients = omega arith;
  cpus = (omega arith, omega arith);
  buckets = (omega arith, omega arith, (8, refl));
  size = (omega arith, omega arith);
  specs = All-cons (IsSpec 2) (record { lock = Free; returns_unlocked = false; direct = false }) [] (record { unlocked = λ _. refl; free = inl refl; later = λ _. refl }) (All-nil (IsSpec 2));
}

pub boot-requires-clause-locks : goal.boot-requires-clause-locks
boot-requires-clause-locks c = record { each = no_lock }
