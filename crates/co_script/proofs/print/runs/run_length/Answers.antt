use Rattle.std.proofs.Common.{◌≡◌, ◌∙◌, true, get_or, arith}
use Rattle.std.specs.Prelude.{◌==◌}
use Rattle.std.proofs.lemmas.Bool.Decides.{nat_tests}
use Rattle.co_script.proofs.Runs.{run_more}
use Rattle.co_script.proofs.print.runs.run_length.Goals as goal

pub loop-i-preserved : goal.loop-i-preserved
loop-i-preserved c =
    let same : (get_or c.args.turns.now c.loop-i.i 0 == c.args.actor) ≡ true = grind (arith, nat_tests) in
    c.loop-i.invariant ∙ run_more c.args.actor c.args.turns.now c.loop-i.i c.loop-i-test.true same
