use Rattle.std.proofs.Common.{◌≤◌, length, sym, arith}
use Rattle.std.proofs.lemmas.Bool.Decides.{nat_tests}
use Rattle.co_text.proofs.SameWords.{all-same}
use Rattle.co_text.proofs.values.is_word.Goals as goal

pub returns : goal.returns
returns c =
    let long : length c.args.word.now ≤ c.loop-index.index = grind (arith, nat_tests) in
    let more : length c.args.wanted.now ≤ c.loop-index.index = grind (arith, nat_tests) in
    sym (all-same c.args.word.now c.args.wanted.now c.loop-index.index long more c.loop-index.invariant)
