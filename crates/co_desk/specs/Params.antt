-- What is fixed of a service.
use Rattle.std.specs.Prelude.{◌≡◌, ℕ, ◌+◌, ◌≤◌, ◌⊎◌, ◌==◌, Bool, false, List, [], length, map, slice_index_or, if◌then◌else◌}
use Rattle.std.specs.List.{All}
use Rattle.co_object.specs.declared.spec.Spec.{Spec}
use Rattle.co_object.specs.declared.spec.LockUse.TheVariants.{Free}
use Rattle.co_object.specs.Actors.{Actors}
use Rattle.co_queue.specs.Timers.{IsWheel}
use Rattle.co_desk.specs.declared.params.Params.{Params}

-- how many callouts a service may have
abbrev pub IsServiceSize : ℕ → Type 0
IsServiceSize size = (1 ≤ size) × (size ≤ 1024)

abbrev pub actors_of : Params → Actors
actors_of p = record { version = p.version; clients = p.clients; cpus = p.cpus }

-- the clients, then the CPUs, and from version 2 on then the interrupts
abbrev pub actor_count : Params → ℕ
actor_count p = p.clients + (if p.version == 1 then p.cpus else p.cpus + p.cpus)

abbrev pub no_spec : Spec
no_spec = record { lock = Free; returns_unlocked = false; direct = false }

-- the spec of callout i
abbrev pub spec_at : Params → ℕ → Spec
spec_at p i = slice_index_or p.specs i no_spec

-- which of the callouts are direct
abbrev pub directs : Params → List Bool
directs p = map (λ spec. spec.direct) p.specs

-- a callout that has no lock doesn't release it, and a direct one has none
pub record IsSpec (version : ℕ) (spec : Spec) : Type 0 where
  pub unlocked : spec.lock ≡ Free → spec.returns_unlocked ≡ false
  pub free : spec.direct ≡ false ⊎ spec.lock ≡ Free
  pub later : version ≡ 1 → spec.direct ≡ false

-- within the limits
pub record AreParams (p : Params) : Type 0 where
  pub version : (p.version ≡ 1) ⊎ (p.version ≡ 2)
  pub clients : p.clients ≤ 16
  pub cpus : (1 ≤ p.cpus) × (p.cpus ≤ 16)
  pub buckets : IsWheel p.buckets
  pub size : IsServiceSize (length p.specs)
  pub specs : All (IsSpec p.version) p.specs

abbrev pub no_params : Params
no_params = record { version = 1; clients = 0; cpus = 0; buckets = 0; specs = [] }
