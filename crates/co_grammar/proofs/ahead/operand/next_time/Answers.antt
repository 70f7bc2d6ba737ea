use Rattle.std.proofs.Common.{rules, arith}
use Rattle.std.proofs.lemmas.List.{take_rest}
use Rattle.std.proofs.lemmas.Option.{IfSome_then}
use Rattle.co_text.specs.Values.{time}
use Rattle.co_grammar.proofs.AheadOperands.{one-read, next-front}
use Rattle.co_grammar.proofs.ahead.operand.next_time.Goals as goal

pub returns-in-32 : goal.returns-in-32
returns-in-32 c =
    let begins = one-read c.args.rest.now _ 32 (omega arith) (search rules) (take_rest c.args.rest.now 1) in
    IfSome_then c.time_ahead.result c.time_ahead.ensures (λ x h. next-front time c.args.rest.now _ x.1.now x.0 begins h)
