use Rattle.std.proofs.Common.{◌≡◌, ◌∙◌, false, get_or, arith}
use Rattle.std.specs.Prelude.{◌==◌}
use Rattle.std.proofs.lemmas.Bool.Decides.{nat_tests}
use Rattle.co_grammar.proofs.Stars.{place_more}
use Rattle.co_grammar.proofs.actors.actor_length.Goals as goal

pub loop-i-preserved : goal.loop-i-preserved
loop-i-preserved c =
    let other : (get_or c.args.word.now c.loop-i.i 0 == 42) ≡ false = grind (arith, nat_tests) in
    c.loop-i.invariant ∙ place_more c.args.word.now c.loop-i.i c.loop-i-test.true other
