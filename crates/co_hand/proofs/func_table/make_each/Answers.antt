-- One more act makes its call.
use Rattle.std.proofs.Common.{arith}
use Rattle.std.proofs.lemmas.Grind.{common_steps}
use Rattle.co_hand.proofs.func_table.make_each.Goals as goal

pub loop-act-preserved : goal.loop-act-preserved
loop-act-preserved g c = grind (arith, common_steps)
