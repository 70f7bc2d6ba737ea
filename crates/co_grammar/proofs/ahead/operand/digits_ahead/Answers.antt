use Rattle.std.proofs.Common.{arith}
use Rattle.co_grammar.proofs.Digits.{below-most}
use Rattle.co_grammar.proofs.ahead.operand.digits_ahead.Goals as goal

pub overflow_mul-value : goal.overflow_mul-value
overflow_mul-value c =
    let few = below-most c.args.text.now _ _ c.loop-c.invariant.spelled in
    omega (arith, few)

pub overflow_add-value : goal.overflow_add-value
overflow_add-value c =
    let few = below-most c.args.text.now _ _ c.loop-c.invariant.spelled in
    omega (arith, few, c.if-digit-gt9.false)
