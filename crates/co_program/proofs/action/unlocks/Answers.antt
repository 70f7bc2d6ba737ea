-- The lock that is held is released.
use Rattle.std.proofs.Common.{refl, sym, ◌∙◌}
use Rattle.co_program.proofs.action.unlocks.Goals as goal

pub returns-then-is_some-clause-action : goal.returns-then-is_some-clause-action
returns-then-is_some-clause-action c s role is = rw (sym c.is_some.ensures ∙ c.if-is_some.true) refl
