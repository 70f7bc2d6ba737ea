use Rattle.std.proofs.Common.{rules}
use Rattle.co_batch_text.proofs.kq.command.read_add.Goals as goal

pub returns : goal.returns
returns c n = let h = c.add_of.ensures n in search rules
