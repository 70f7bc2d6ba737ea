use Rattle.std.proofs.Common.{rules, arith}
use Rattle.std.proofs.lemmas.List.{take_rest}
use Rattle.co_grammar.proofs.AheadOperands.{one-read, units-front}
use Rattle.co_grammar.proofs.ahead.operand.units_ahead.Goals as goal

pub returns : goal.returns
returns c =
    let begins = one-read c.args.text.now _ 117 (omega arith) (search rules) (take_rest c.args.text.now 1) in
    units-front c.args.text.now _ c.in_ok-number.rest.now c.in_ok-number.number begins c.in_ok-number.ensures (omega (arith, c.if-number-ge9223372036854775808.false))
