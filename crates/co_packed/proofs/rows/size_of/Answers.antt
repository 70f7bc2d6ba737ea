use Rattle.co_packed.proofs.Nibbles.{size_of_pairs}
use Rattle.co_packed.proofs.rows.size_of.Goals as goal

pub returns-clause-value : goal.returns-clause-value
returns-clause-value c = size_of_pairs c.args.word
