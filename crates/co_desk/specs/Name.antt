-- A service's name: the identities of the lives of its callouts and of its CPUs, by their numbers.
use Rattle.std.specs.Prelude.{List}
use Rattle.co_life.specs.Identity.{LifeId}

pub record ServiceName : Type 0 where
  pub timers : List LifeId
  pub cpus : List LifeId
