-- The services that the tests play on: one client, and callouts without locks.
use Rattle.std.specs.Prelude.{◌≡◌, ℕ, length}
use Rattle.co_object.specs.declared.spec.Spec.{Spec}
use Rattle.co_object.specs.declared.spec.LockUse.TheVariants.{Free, Mtx}
use Rattle.co_desk.specs.declared.params.Params.{Params}
use Rattle.co_desk.specs.Params.{IsSpec, actor_count, spec_at}
use Rattle.service_cases.specs.declared.scene.Scene.{Scene}
use Rattle.service_cases.specs.declared.scene.Scene.TheVariants.{Alone, Direct, Moved, Waiting, InWords}

-- a callout without a lock
pub record IsFreeSpec (version : ℕ) (spec : Spec) : Type 0 where
  pub lock : spec.lock ≡ Free
  pub allowed : IsSpec version spec

pub record IsScene (version cpus callouts actors : ℕ) (p : Params) : Type 0 where
  pub version_is : p.version ≡ version
  pub clients : p.clients ≡ 1
  pub cpus_are : p.cpus ≡ cpus
  pub size : length p.specs ≡ callouts
  pub free : (i : ℕ) → (spec_at p i).lock ≡ Free
  pub actors_are : actor_count p ≡ actors

-- one client, one CPU, and one callout with a mutex
pub record IsLocked (p : Params) : Type 0 where
  pub version_is : p.version ≡ 1
  pub clients : p.clients ≡ 1
  pub cpus_are : p.cpus ≡ 1
  pub size : length p.specs ≡ 1
  pub lock : (spec_at p 0).lock ≡ Mtx 0
  pub actors_are : actor_count p ≡ 2

-- a scene is played on a service of these parameters
abbrev pub PlaysOn : Scene → Params → Type 0
PlaysOn Alone p = IsScene 1 2 1 3 p
PlaysOn Direct p = IsScene 2 1 1 3 p
PlaysOn Moved p = IsScene 1 2 1 3 p
PlaysOn Waiting p = IsLocked p
PlaysOn InWords p = IsScene 1 1 1 2 p
