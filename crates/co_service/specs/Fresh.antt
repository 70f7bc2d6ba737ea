-- A service before its locks.
use Rattle.std.specs.Prelude.{◌≡◌, ℕ, ◌≤◌, List, length, slice_get}
use Rattle.std.specs.declared.option.Option.TheVariants.{Some}
use Rattle.co_service.specs.declared.desk_parts.DeskParts.{DeskParts}
use Rattle.co_desk.specs.declared.params.Params.{Params}
use Rattle.co_desk.specs.Name.{ServiceName}
use Rattle.co_desk.specs.Params.{AreParams}
use Rattle.co_service.specs.Booted.{AreBooted, IsDeskParts}
use Rattle.co_desk.specs.Views.{PassesView}

pub record FreshView : Type 0 where
  pub name : ServiceName
  pub params : Params

-- what each CPU has before the first call, in the order of their numbers
pub record AreDeskParts (name : ServiceName) (p : Params) (all_parts : List DeskParts) : Type 0 where
  pub count : length all_parts ≡ p.cpus
  pub each : (k : ℕ) (b : DeskParts) → slice_get all_parts k ≡ Some b → IsDeskParts name p k b.wheel b.keepers.items b.journal

-- each callout and each CPU has its life
pub record AreNamed (name : ServiceName) (p : Params) : Type 0 where
  pub timers : length name.timers ≡ length p.specs
  pub cpus : length name.cpus ≡ p.cpus

-- its parameters are within the limits, and each CPU has what it begins with
pub record IsFresh (name : ServiceName) (p : Params) (all_parts : List DeskParts) : Type 0 where
  pub limits : AreParams p
  pub named : AreNamed name p
  pub cpus : AreDeskParts name p all_parts

-- a running service: its parameters are within the limits, and each CPU has a desk
pub record IsService (name places : ServiceName) (p : Params) (desks : ℕ) : Type 0 where
  pub same : places ≡ name
  pub count : desks ≡ p.cpus
  pub some : 1 ≤ p.cpus
  pub limits : AreParams p
  pub named : AreNamed name p

-- a service of these parameters before its locks, and each actor's passes of it
pub record IsFreshlyMade (p : Params) (fresh : FreshView) (passes : List PassesView) : Type 0 where
  pub params_are : fresh.params ≡ p
  pub passes_are : AreBooted fresh.name p passes
  pub named : AreNamed fresh.name p
