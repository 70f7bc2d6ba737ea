use Rattle.std.proofs.Common.{◌≡◌, ◌∙◌, false, get_or, arith}
use Rattle.std.specs.Prelude.{◌==◌}
use Rattle.std.proofs.lemmas.Bool.Decides.{nat_tests}
use Rattle.co_notes.proofs.PartSplits.{place_more}
use Rattle.co_notes.proofs.reading.parts.length_before.Goals as goal

pub loop-i-preserved : goal.loop-i-preserved
loop-i-preserved c =
    let other : (get_or c.args.text.now c.loop-i.i 0 == c.args.end) ≡ false = grind (arith, nat_tests) in
    c.loop-i.invariant ∙ place_more c.args.end c.args.text.now c.loop-i.i c.loop-i-test.true other
