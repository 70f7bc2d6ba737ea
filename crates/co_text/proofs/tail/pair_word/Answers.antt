use Rattle.std.proofs.Common.{arith, ◌∙◌}
use Rattle.std.proofs.lemmas.List.FromFn.{get_or-map-range_with_len}
use Rattle.co_text.specs.Written.{pair_word}
use Rattle.co_text.proofs.tail.pair_word.Goals as goal

-- src/tail.rt:35:1
pub returns : goal.returns
returns c = c.from.ensures ∙ get_or-map-range_with_len pair_word 0 100 c.args.number c.args.number 0 c.requires (omega arith)
