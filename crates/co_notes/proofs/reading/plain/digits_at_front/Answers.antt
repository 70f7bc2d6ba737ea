use Rattle.std.proofs.Common.{ℕ, ◌≡◌, ◌≤◌, ◌^◌, take, ap, arith}
use Rattle.std.proofs.Math.Nat.{pow-le-pow_right}
use Rattle.co_sbt.specs.Seconds.{number}
use Rattle.co_notes.proofs.reading.plain.digits_at_front.Goals as goal

pub returns-after-loop-c-clause-value : goal.returns-after-loop-c-clause-value
returns-after-loop-c-clause-value c = λ few.
    let fits : c.loop-c.c-index ≤ 19 = omega (arith, few) in
    let small : 10 ^ c.loop-c.c-index ≤ 10 ^ 19 = pow-le-pow_right {n = 10} (omega arith) fits in
    let same : number (take c.loop-c.count c.args.text.now) ≡ number (take c.loop-c.c-index c.args.text.now) = ap (λ (k : ℕ). number (take k c.args.text.now)) c.loop-c.invariant.count in
    omega (arith, small, same)

pub returns-then-digit-gt9-clause-value : goal.returns-then-digit-gt9-clause-value
returns-then-digit-gt9-clause-value c = λ few.
    let fits : c.loop-c.c-index ≤ 19 = omega (arith, few) in
    let small : 10 ^ c.loop-c.c-index ≤ 10 ^ 19 = pow-le-pow_right {n = 10} (omega arith) fits in
    let same : number (take c.loop-c.count c.args.text.now) ≡ number (take c.loop-c.c-index c.args.text.now) = ap (λ (k : ℕ). number (take k c.args.text.now)) c.loop-c.invariant.count in
    omega (arith, small, same)
