-- Two clients, two CPUs, and three callouts: one without a lock, one with a mutex, and a direct one.
use Rattle.std.specs.Prelude.{◌≡◌, ℕ, true, false, List, [], ◌∷◌, length}
use Rattle.std.specs.declared.option.Option.{Option}
use Rattle.std.specs.declared.option.Option.TheVariants.{None, Some}
use Rattle.co_hand.specs.declared.port_call.PortCall.{PortCall}
use Rattle.co_hand.specs.Handlers.{Needs}
use Rattle.co_lock.specs.declared.lock_kind.LockKind.{LockKind}
use Rattle.co_object.specs.declared.spec.LockUse.TheVariants.{Free, Mtx}
use Rattle.co_object.specs.declared.spec.Spec.{Spec}
use Rattle.co_desk.specs.declared.params.Params.{Params}

abbrev pub scene_specs : List Spec
scene_specs =
    record { lock = Free; returns_unlocked = false; direct = false }
    ∷ record { lock = Mtx 0; returns_unlocked = false; direct = false }
    ∷ record { lock = Free; returns_unlocked = false; direct = true }
    ∷ []

abbrev pub scene : Params
scene = record { version = 2; clients = 2; cpus = 2; buckets = 16; specs = scene_specs }

abbrev pub scene_locks : List LockKind
scene_locks = LockKind.Mtx ∷ []

-- each function makes one call
abbrev pub scene_needs : Needs
scene_needs = record { callouts = 3; cpus = 2; calls = λ func. 1 }

-- the function that a drain's function leaves as the last one of a drain
abbrev pub last_drained : Option ℕ → Option ℕ → Option ℕ
last_drained None old = old
last_drained (Some func) old = Some func

-- what it is to run a function: it makes one call, and the last drain's function is noted
pub record MakesOneCall (drain : Option ℕ) (calls : List PortCall) (old new : Option ℕ) : Type 0 where
  pub one : length calls ≡ 1
  pub noted : new ≡ last_drained drain old
