-- Each bucket is seen in its turn, and what stands in a later one is due later.
use Rattle.std.proofs.Common.{◌≡◌, ◌<◌, ◌+◌, ◌%◌, ℕ, ap, sym, ◌∙◌, arith}
use Rattle.std.specs.declared.option.Option.TheVariants.{None}
use Rattle.co_sbt.specs.Time.{hash}
use Rattle.co_bucket.specs.Earliest.{least}
use Rattle.co_bucket.proofs.Looking.{seen, first-more, first-near, first-all, within-some}
use Rattle.co_bucket.proofs.earliest.first_of_all.Goals as goal

on-is : (f l m m' d : ℕ) → f ≡ hash l → m' ≡ m → (f + d) % m' ≡ (hash l + d) % m
on-is f l m m' d e g = ap (λ (x : ℕ). (x + d) % m') e ∙ ap (λ (x : ℕ). (hash l + d) % x) g

pub loop-d-preserved : goal.loop-d-preserved
loop-d-preserved c = λ some. first-more c.args.rings.now c.args.times.now c.args.buckets c.args.last some c.loop-d.d ((c.hash-from.result + c.loop-d.d) % c.from.result) c.loop-d.first c.first_in-first.result
    (on-is c.hash-from.result c.args.last c.args.buckets c.from.result c.loop-d.d c.hash-from.ensures c.from.ensures) (c.loop-d.invariant some) c.first_in-first.ensures

pub returns-in-Some : goal.returns-in-Some
returns-in-Some c =
    let some : 0 < c.args.buckets = let s = c.requires.some in omega (arith, s) in
    let found = within-some c.first_in-first.result (c.hash-from.result + c.loop-d.d) c.in-Some.time (sym c.within.ensures ∙ c.in-Some.is) in
    let more = first-more c.args.rings.now c.args.times.now c.args.buckets c.args.last some c.loop-d.d ((c.hash-from.result + c.loop-d.d) % c.from.result) c.loop-d.first c.first_in-first.result
    (on-is c.hash-from.result c.args.last c.args.buckets c.from.result c.loop-d.d c.hash-from.ensures c.from.ensures) (c.loop-d.invariant some) c.first_in-first.ensures in
    first-near c.args.rings.now c.args.times.now c.args.buckets c.args.last some c.requires.timely c.loop-d.d c.in-Some.time (omega (arith, c.loop-d-test.true, c.from-d-end.ensures)) (omega (arith, found.1, c.hash-from.ensures))
    (sym more ∙ found.0)

pub returns : goal.returns
returns c =
    let some : 0 < c.args.buckets = let s = c.requires.some in omega (arith, s) in
    let all : c.loop-d.d ≡ c.args.buckets = omega (arith, c.loop-d-test.false, c.loop-d.auto.d-end, c.from-d-end.ensures) in
    first-all c.args.rings.now c.args.times.now c.args.buckets c.args.last some c.loop-d.first
    (ap (λ d. least c.args.times.now None (seen c.args.rings.now c.args.times.now c.args.buckets c.args.last some d)) (sym all) ∙ sym (c.loop-d.invariant some))
