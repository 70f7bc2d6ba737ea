use Rattle.std.proofs.Common.{sym, arith}
use Rattle.std.proofs.lemmas.List.{get_or_past}
use Rattle.co_packed.specs.declared.kinds.Answer.TheVariants.{Armed}
use Rattle.co_packed.specs.Numbered.{answers, answer_at}
use Rattle.co_packed.proofs.kind_numbers.answer_at.Goals as goal

pub returns-else-number-lt34 : goal.returns-else-number-lt34
unfolding answer_at
returns-else-number-lt34 c = sym (get_or_past answers c.args.number Armed (omega arith))
