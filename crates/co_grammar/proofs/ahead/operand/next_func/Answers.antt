use Rattle.std.proofs.Common.{rules, arith}
use Rattle.std.proofs.lemmas.List.{take_rest}
use Rattle.std.proofs.lemmas.Option.{IfSome_then}
use Rattle.co_grammar.proofs.AheadOperands.{two-read, func-next}
use Rattle.co_grammar.proofs.ahead.operand.next_func.Goals as goal

pub returns-in-32 : goal.returns-in-32
returns-in-32 c =
    let begins = two-read c.args.rest.now _ 32 102 (omega arith) (search rules) (search rules) (take_rest c.args.rest.now 2) in
    IfSome_then c.small_ahead.result c.small_ahead.ensures (λ x h. func-next c.args.rest.now _ x.1.now x.0 begins h)
