-- A lock is held in the ledger where an actor of the world has it.
use Rattle.std.proofs.Common.{sym, ◌∙◌, refl}
use Rattle.co_core.proofs.steps.Waits.{locked-is}
use Rattle.co_world.specs.World.{lists_of}
use Rattle.co_core.specs.Written.{with_lists}
use Rattle.co_core.proofs.engine.Engine.lock_waits.Goals as goal

pub returns-then-is_locked : goal.returns-then-is_locked
returns-then-is_locked c = λ s w h. rw (sym (locked-is s (with_lists c.args.self.now.ledger (lists_of s w)) w h c.args.held.now) ∙ (sym c.is_locked.ensures ∙ c.if-is_locked.true)) refl

pub returns-else-is_locked : goal.returns-else-is_locked
returns-else-is_locked c = λ s w h. rw (sym (locked-is s (with_lists c.args.self.now.ledger (lists_of s w)) w h c.args.held.now) ∙ (sym c.is_locked.ensures ∙ c.if-is_locked.false)) refl
