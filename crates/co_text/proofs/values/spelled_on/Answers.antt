use Rattle.std.proofs.Common.{◌≤◌, ◌+◌, ◌-◌, length, arith}
use Rattle.co_text.proofs.Spelling.{digit_more, ten_more, ten_most}
use Rattle.co_text.proofs.values.spelled_on.Goals as goal

pub overflow_mul-value : goal.overflow_mul-value
overflow_mul-value c =
    let few = ten_most _ 18 _ (omega (arith, c.requires.short)) c.loop-c.invariant.below in
    omega (arith, few)

pub overflow_add-value : goal.overflow_add-value
overflow_add-value c =
    let few = ten_most _ 18 _ (omega (arith, c.requires.short)) c.loop-c.invariant.below in
    omega (arith, few, c.if-digit-gt9.false)

pub loop-c-preserved : goal.loop-c-preserved
loop-c-preserved c =
    let digit : c.digit_value-digit.result ≤ 9 = omega (arith, c.if-digit-gt9.false) in
    let more = digit_more c.args.word.now c.loop-c.c-index c.args.value c.loop-c.value c.digit_value-digit.result (omega (arith, c.loop-c-test.true)) c.loop-c.invariant.digits c.loop-c.invariant.value (c.digit_value-digit.ensures.digit digit) in
    record {
      digits = more.0;
      value = more.1;
      below = ten_more (19 - length c.args.word.now + c.loop-c.c-index) (19 - length c.args.word.now + (c.loop-c.c-index + 1)) c.loop-c.value c.digit_value-digit.result (omega arith) c.loop-c.invariant.below digit;
    }
