-- What contracts see of the core's world, and the plain worlds that it stands for.
use Rattle.co_program.specs.declared.script.Script.{Script}
use Rattle.co_program.specs.Scripts.{IsScript}
use Rattle.co_core.specs.Stands.{StandsFor}
use Rattle.co_core.specs.Stored.{Stored}
use Rattle.co_world.specs.World.{World}
use Rattle.co_core.specs.Written.{Written}
use Rattle.co_core.specs.Seen.{Seen}

-- it stands for this plain world: of its script, and reached by some schedule
abbrev pub Shows : Seen → World → Type 0
Shows x w = StandsFor x.script x.ledger x.depot w

-- its script is a sound one, and it stands for a plain world
pub record IsWorld (s : Script) (ledger : Written) (depot : Stored) : Type 0 where
  pub sound : IsScript s
  pub world : World
  pub stands : StandsFor s ledger depot world
