-- The ledger and the depot before the first step stand for the world that opens.
use Rattle.co_core.proofs.opening.Shown.{opening-stands}
use Rattle.co_world.specs.World.{lists_of, open_world}
use Rattle.co_core.specs.Written.{with_lists}
use Rattle.co_core.proofs.engine.Engine.boot.Goals as goal

pub returns : goal.returns
returns c = opening-stands c.args.script.now (with_lists c.in_ok-ledger.ledger (lists_of c.args.script.now (open_world c.args.script.now))) c.in_ok-depot.depot c.requires c.in_ok-ledger.ensures c.in_ok-depot.ensures
