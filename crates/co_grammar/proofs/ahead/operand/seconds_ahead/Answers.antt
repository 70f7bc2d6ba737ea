use Rattle.std.proofs.Common.{arith}
use Rattle.co_grammar.proofs.AheadOperands.{seconds-front}
use Rattle.co_grammar.proofs.ahead.operand.seconds_ahead.Goals as goal

pub returns : goal.returns
returns c = seconds-front c.args.text.now c.in_ok-number.rest.now c.in_ok-number.number c.in_ok-number.ensures (omega (arith, c.if-number-ge2147483648.false)) (omega (arith, c.if-text-rest-gt10.false))
