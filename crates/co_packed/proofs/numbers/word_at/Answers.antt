use Rattle.std.proofs.Common.{◌∙◌}
use Rattle.std.proofs.lemmas.List.{take_rest}
use Rattle.co_packed.proofs.Again.{word_in_front}
use Rattle.co_packed.proofs.numbers.word_at.Goals as goal

pub returns : goal.returns
returns c = c.from_le_bytes.ensures ∙ word_in_front _ _ c.args.bytes.now c.args.at c.in-Some.ensures.cases.same (take_rest c.args.bytes.now c.args.at)
