use Rattle.std.proofs.Common.{◌≤◌, ◌-◌, length, refl, arith}
use Rattle.co_text.proofs.Spelling.{four_spelled, ten_most}
use Rattle.co_text.proofs.values.fours_spelled.Goals as goal

pub overflow_mul-value : goal.overflow_mul-value
overflow_mul-value c =
    let a : c.digit_value-a.result ≤ 9 = omega (arith, c.if-a-gt9.false) in
    let b : c.digit_value-b.result ≤ 9 = omega (arith, c.if-b-gt9.false) in
    let d : c.digit_value-c.result ≤ 9 = omega (arith, c.if-c-gt9.false) in
    let e : c.digit_value-d.result ≤ 9 = omega (arith, c.if-d-gt9.false) in
    let more = four_spelled c.args.word.now c.loop-rest.rest.now _ c.loop-rest.value c.digit_value-a.result c.digit_value-b.result c.digit_value-c.result c.digit_value-d.result c.loop-rest.invariant c.in-len4-up.len_at_least refl
    a (c.digit_value-a.ensures.digit a) b (c.digit_value-b.ensures.digit b) d (c.digit_value-c.ensures.digit d) e (c.digit_value-d.ensures.digit e) in
    let few = ten_most (length c.args.word.now - _) 19 _ (omega (arith, c.requires)) more.below in
    omega (arith, few)

pub overflow_add-value-in-len4-up-3 : goal.overflow_add-value-in-len4-up-3
overflow_add-value-in-len4-up-3 c =
    let a : c.digit_value-a.result ≤ 9 = omega (arith, c.if-a-gt9.false) in
    let b : c.digit_value-b.result ≤ 9 = omega (arith, c.if-b-gt9.false) in
    let d : c.digit_value-c.result ≤ 9 = omega (arith, c.if-c-gt9.false) in
    let e : c.digit_value-d.result ≤ 9 = omega (arith, c.if-d-gt9.false) in
    let more = four_spelled c.args.word.now c.loop-rest.rest.now _ c.loop-rest.value c.digit_value-a.result c.digit_value-b.result c.digit_value-c.result c.digit_value-d.result c.loop-rest.invariant c.in-len4-up.len_at_least refl
    a (c.digit_value-a.ensures.digit a) b (c.digit_value-b.ensures.digit b) d (c.digit_value-c.ensures.digit d) e (c.digit_value-d.ensures.digit e) in
    let few = ten_most (length c.args.word.now - _) 19 _ (omega (arith, c.requires)) more.below in
    omega (arith, few)

pub loop-rest-preserved : goal.loop-rest-preserved
loop-rest-preserved c =
    let a : c.digit_value-a.result ≤ 9 = omega (arith, c.if-a-gt9.false) in
    let b : c.digit_value-b.result ≤ 9 = omega (arith, c.if-b-gt9.false) in
    let d : c.digit_value-c.result ≤ 9 = omega (arith, c.if-c-gt9.false) in
    let e : c.digit_value-d.result ≤ 9 = omega (arith, c.if-d-gt9.false) in
    four_spelled c.args.word.now c.loop-rest.rest.now _ c.loop-rest.value c.digit_value-a.result c.digit_value-b.result c.digit_value-c.result c.digit_value-d.result c.loop-rest.invariant c.in-len4-up.len_at_least refl
    a (c.digit_value-a.ensures.digit a) b (c.digit_value-b.ensures.digit b) d (c.digit_value-c.ensures.digit d) e (c.digit_value-d.ensures.digit e)
