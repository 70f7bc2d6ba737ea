use Rattle.std.proofs.Common.{arith}
use Rattle.co_single.specs.Alarms.{waiting_of}
use Rattle.co_single.proofs.OfAct.{none_adds, adds_more}
use Rattle.co_itimer.proofs.Expiring.{serving-begins, head-comes, may-arm, fewer-wait, one-more, serving-ends}
use Rattle.co_itimer.proofs.serving.serve_all.Goals as goal

pub loop-fired-init : goal.loop-fired-init
loop-fired-init g c = record {
  serving = serving-begins c.args.act c.args.single.now c.args.book.now c.requires.wait;
  entries = none_adds c.args.single.now c.args.act;
}

pub expire-next-requires-clause-exists : goal.expire-next-requires-clause-exists
expire-next-requires-clause-exists g c = let f = c.in-Some.ensures.some in omega (arith, f.below, c.loop-fired.invariant.serving.armed.count)

pub expire-next-requires-clause-come : goal.expire-next-requires-clause-come
expire-next-requires-clause-come g c =
    let f = c.in-Some.ensures.some in
    head-comes c.args.act c.args.single.now c.args.book.now c.loop-fired.single c.loop-fired.book c.in-Some.fired.i (waiting_of c.fire.new.self) f.waiting c.loop-fired.invariant.serving

pub arm_again-requires-clause-made : goal.arm_again-requires-clause-made
arm_again-requires-clause-made g c =
    may-arm c.args.act c.args.single.now c.args.book.now c.loop-fired.single c.loop-fired.book c.in-Some.fired.i c.in-Some.fired.arg c.fire.new.self c.fire.new.self c.expire-next.new.self c.expire-next.result c.loop-fired.invariant.serving c.in-Some.ensures.some
    c.requires.act

pub loop-fired-preserved : goal.loop-fired-preserved
loop-fired-preserved g c = record {
  serving =
      one-more c.args.act c.args.single.now c.args.book.now c.loop-fired.single c.loop-fired.book c.in-Some.fired.i c.in-Some.fired.arg c.fire.new.self c.arm_again.new.single c.expire-next.new.self c.expire-next.result c.loop-fired.invariant.serving c.in-Some.ensures.some
      c.arm_again.ensures.armed c.expire-next.ensures.after c.expire-next.ensures.next;
  entries =
      let q = c.loop-fired.single in
      let fired = adds_more c.args.single.now q c.fire.new.self c.args.act c.loop-fired.invariant.entries c.fire.ensures.entries in
      adds_more c.args.single.now c.fire.new.self c.arm_again.new.single c.args.act fired c.arm_again.ensures.entries;
}

pub loop-fired-smaller : goal.loop-fired-smaller
loop-fired-smaller g c =
    fewer-wait c.args.act c.args.single.now c.args.book.now c.loop-fired.single c.loop-fired.book c.in-Some.fired.i c.in-Some.fired.arg c.fire.new.self c.arm_again.new.single c.expire-next.new.self c.expire-next.result c.loop-fired.invariant.serving c.in-Some.ensures.some
    c.arm_again.ensures.armed

pub returns-clause-served : goal.returns-clause-served
returns-clause-served g c = serving-ends c.args.act c.args.single.now c.args.book.now c.loop-fired.single c.loop-fired.book c.fire.new.self c.in_default.ensures.none c.loop-fired.invariant.serving

pub returns-clause-entries : goal.returns-clause-entries
returns-clause-entries g c = adds_more c.args.single.now c.loop-fired.single c.fire.new.self c.args.act c.loop-fired.invariant.entries c.fire.ensures.entries
