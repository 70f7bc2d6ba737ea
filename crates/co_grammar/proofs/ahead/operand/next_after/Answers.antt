use Rattle.std.proofs.Common.{rules, arith}
use Rattle.std.proofs.lemmas.List.{take_rest}
use Rattle.co_grammar.proofs.AheadOperands.{two-read, after-front}
use Rattle.co_grammar.proofs.ahead.operand.next_after.Goals as goal

pub returns : goal.returns
returns c =
    let begins = two-read c.args.rest.now _ 32 43 (omega arith) (search rules) (search rules) (take_rest c.args.rest.now 2) in
    after-front c.args.rest.now _ c.in_ok-units.rest.now c.in_ok-units.units c.in_ok-time.time begins c.in_ok-units.ensures c.in_ok-time.ensures.found.0
