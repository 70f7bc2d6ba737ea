-- What the tests run.
use Rattle.std.specs.Prelude.{false, [], ◌∷◌}
use Rattle.co_object.specs.declared.spec.Spec.{Spec}
use Rattle.co_object.specs.declared.spec.LockUse.TheVariants.{Free}
use Rattle.co_program.specs.declared.script.Script.{Script}
use Rattle.co_program.specs.Scripts.{IsScript}
use Rattle.co_desk.specs.declared.params.Params.{Params}
use Rattle.co_desk.specs.Params.{AreParams}
use Rattle.co_run.specs.Acting.{HasLocks, params_of}

-- a script that can run on threads
pub record CanRun (s : Script) : Type 0 where
  pub script : IsScript s
  pub locks : HasLocks s
  pub params : AreParams (params_of s)

-- a callout without a lock
abbrev pub free_spec : Spec
free_spec = record { lock = Free; returns_unlocked = false; direct = false }

-- two clients, three CPUs and two callouts without locks
abbrev pub two_clients : Params
two_clients = record { version = 1; clients = 2; cpus = 3; buckets = 16; specs = free_spec ∷ free_spec ∷ [] }
