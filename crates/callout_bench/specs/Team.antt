-- Threads, with a client, a CPU and 16 callouts for each, and one CPU more.
use Rattle.std.specs.Prelude.{◌≡◌, ℕ, ◌+◌, ◌*◌, ◌<◌, length}
use Rattle.co_object.specs.declared.spec.Spec.{Spec}
use Rattle.co_object.specs.declared.spec.LockUse.TheVariants.{Free}
use Rattle.co_desk.specs.declared.params.Params.{Params}
use Rattle.co_desk.specs.Name.{ServiceName}
use Rattle.co_desk.specs.Params.{IsSpec, spec_at}
use Rattle.co_desk.specs.Views.{AreOf, PassesView}
use Rattle.callout_bench.specs.declared.work.Work.{Work}

-- a callout without a lock, which no interrupt services
pub record IsPlain (spec : Spec) : Type 0 where
  pub lock : spec.lock ≡ Free
  pub allowed : IsSpec 1 spec

-- a service of version 1 for the threads
pub record IsTeam (work : Work) (p : Params) : Type 0 where
  pub version_is : p.version ≡ 1
  pub clients : p.clients ≡ work.threads
  pub cpus : p.cpus ≡ work.threads + 1
  pub size : length p.specs ≡ work.threads * 16
  pub free : (i : ℕ) → (spec_at p i).lock ≡ Free

-- passes of a client of the service
pub record IsClient (name : ServiceName) (p : Params) (passes : PassesView) : Type 0 where
  pub of : AreOf name p passes
  pub number : passes.actor < p.clients
