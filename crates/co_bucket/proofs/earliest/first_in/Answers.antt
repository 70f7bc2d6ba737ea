-- The callout that is looked at stands in the bucket, and one more has been.
use Rattle.std.proofs.Common.{◌+◌, sym, subst, ap, arith}
use Rattle.std.specs.declared.option.Option.TheVariants.{Some}
use Rattle.std.proofs.lemmas.List.{get_or_read}
use Rattle.co_bucket.proofs.Looking.{Looking, at-end, at-size, x-below, looked}
use Rattle.co_bucket.proofs.earliest.first_in.Goals as goal

pub bounds-times-i : goal.bounds-times-i
bounds-times-i c = omega (arith, x-below c.requires.linked c.requires.bucket c.loop.invariant c.in-Some.i c.in-Some.is, c.requires.times)

pub after-at-requires-clause-callout : goal.after-at-requires-clause-callout
after-at-requires-clause-callout c = x-below c.requires.linked c.requires.bucket c.loop.invariant c.in-Some.i c.in-Some.is

pub loop-preserved : goal.loop-preserved
loop-preserved c =
    let below = x-below c.requires.linked c.requires.bucket c.loop.invariant c.in-Some.i c.in-Some.is in
    let time = get_or_read c.args.times.now c.in-Some.i _ (omega (arith, below, c.requires.times)) c.index-times-i.is 0 in
    subst (λ o. Looking c.args.rings.now c.args.times.now c.args.bucket c.args.first o c.after-at.result (c.loop.counter + 1)) (ap (λ u. Some u) (sym c.earlier.ensures))
    (looked c.requires.linked c.requires.bucket c.loop.invariant c.in-Some.i c.in-Some.is c.index-times-i.result time c.after-at.result c.after-at.ensures)

pub returns : goal.returns
returns c = at-size c.requires.linked c.requires.bucket c.loop.invariant (omega (arith, c.loop.auto.counter-end, c.loop-test.false))

pub returns-in_default : goal.returns-in_default
returns-in_default c = at-end c.requires.linked c.requires.bucket c.loop.invariant c.in_default.is
