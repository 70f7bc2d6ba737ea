-- The group's time stands first, and its call behind it.
use Rattle.std.proofs.Common.{arith}
use Rattle.std.proofs.lemmas.Grind.{common_steps}
use Rattle.co_gen.proofs.acts.push_group.Goals as goal

pub returns : goal.returns
returns c = grind (arith, common_steps)
