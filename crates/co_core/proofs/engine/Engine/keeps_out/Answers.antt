-- A lock is held in the ledger where an actor of the world has it.
use Rattle.std.proofs.Common.{sym, ◌∙◌}
use Rattle.co_core.proofs.steps.Waits.{locked-is}
use Rattle.co_world.specs.World.{lists_of}
use Rattle.co_core.specs.Written.{with_lists}
use Rattle.co_core.proofs.engine.Engine.keeps_out.Goals as goal

pub returns : goal.returns
returns c out s w h = sym (locked-is s (with_lists c.args.self.now.ledger (lists_of s w)) w h c.args.held.now) ∙ (sym c.is_locked.ensures ∙ out)
