use Rattle.std.proofs.Common.{◌∙◌, refl}
use Rattle.co_packed.proofs.Again.{masked}
use Rattle.co_packed.specs.Numbers.{number_in}
use Rattle.co_packed.proofs.numbers.number_at.Goals as goal

pub returns : goal.returns
unfolding number_in
returns c = masked c.word_at.result c.args.width c.requires.few ∙ rw c.word_at.ensures refl
