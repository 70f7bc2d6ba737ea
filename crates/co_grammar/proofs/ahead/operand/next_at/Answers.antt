use Rattle.std.proofs.Common.{rules, arith}
use Rattle.std.proofs.lemmas.List.{take_rest}
use Rattle.co_grammar.proofs.AheadOperands.{two-read, at-front}
use Rattle.co_grammar.proofs.ahead.operand.next_at.Goals as goal

pub returns : goal.returns
returns c =
    let begins = two-read c.args.rest.now _ 32 61 (omega arith) (search rules) (search rules) (take_rest c.args.rest.now 2) in
    at-front c.args.rest.now _ c.in_ok-units.rest.now c.in_ok-units.units c.in_ok-time.time begins c.in_ok-units.ensures c.in_ok-time.ensures.found.0
