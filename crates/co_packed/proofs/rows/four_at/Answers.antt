use Rattle.std.proofs.Common.{arith}
use Rattle.co_packed.proofs.Widths.{four_numbers, four_sizes}
use Rattle.co_packed.proofs.rows.four_at.Goals as goal

pub returns-clause-numbers : goal.returns-clause-numbers
returns-clause-numbers c = rw (c.number_at.ensures, c.number_at-2.ensures, c.number_at-3.ensures, c.number_at-4.ensures) (four_numbers c.args.widths c.args.at c.args.bytes.now)

pub returns-clause-end : goal.returns-clause-end
returns-clause-end c = omega (arith, four_sizes c.args.widths)
