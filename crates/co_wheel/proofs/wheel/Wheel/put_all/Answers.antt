use Rattle.std.proofs.Common.{◌≡◌, ◌∙◌, Option, List, length, refl, ap, sym, arith}
use Rattle.co_object.specs.declared.alone.Alone.{Alone}
use Rattle.co_wheel.proofs.Coming.{partly, partly-none, partly-more, partly-all, partly-long, partly-absent}
use Rattle.co_wheel.proofs.wheel.Wheel.put_all.Goals as goal

pub loop-i-init : goal.loop-i-init
loop-i-init g c =
    let w = c.args.self.now in
    ap (λ (xs : List (Option Alone)). record w { callouts = record w.callouts { here = xs } }) (c.requires.empty ∙ partly-none c.args.specs.now)

pub put-requires-clause-below : goal.put-requires-clause-below
put-requires-clause-below g c =
    rw (c.new.ensures, c.loop-i.invariant) (let l = partly-long c.args.specs.now c.loop-i.i in omega (arith, l, c.loop-i-test.true))

pub put-requires-clause-absent : goal.put-requires-clause-absent
put-requires-clause-absent g c =
    rw (c.new.ensures, c.loop-i.invariant, partly-absent c.args.specs.now c.loop-i.i) refl

pub loop-i-preserved : goal.loop-i-preserved
loop-i-preserved g c =
    let w = c.args.self.now in
    c.put.ensures ∙ rw (c.new.ensures, c.loop-i.invariant) (
    ap (λ (xs : List (Option Alone)). record w { callouts = record w.callouts { here = xs } }) (partly-more c.args.specs.now c.loop-i.i))

pub returns : goal.returns
returns g c =
    let w = c.args.self.now in
    let long : length c.args.specs.now ≡ c.loop-i.i = omega (arith, c.loop-i.auto.i-end, c.loop-i-test.false) in
    c.loop-i.invariant ∙ ap (λ (xs : List (Option Alone)). record w { callouts = record w.callouts { here = xs } }) (ap (λ k. partly c.args.specs.now k) (sym long) ∙ partly-all c.args.specs.now)
