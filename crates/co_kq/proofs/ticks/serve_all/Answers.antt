use Rattle.std.proofs.Common.{◌∙◌, refl, arith}
use Rattle.co_single.proofs.OfAct.{none_adds, adds_more}
use Rattle.co_kq.proofs.Serving.{begins, can_serve, serves_on, serves_last, fewer}
use Rattle.co_kq.proofs.ticks.serve_all.Goals as goal

pub loop-now-init : goal.loop-now-init
loop-now-init g c = record {
  serving = begins c.args.now c.args.act c.args.knotes.now.slots c.args.uses.now c.args.single.now c.requires;
  entries = none_adds c.args.single.now c.args.act;
  capacity = refl;
}

pub serve_one-requires : goal.serve_one-requires
serve_one-requires g c = can_serve c.args.now c.args.act c.args.knotes.now.slots c.args.uses.now c.args.single.now c.requires c.loop-now.knotes.slots c.loop-now.single c.loop-now.invariant.serving

pub loop-now-preserved : goal.loop-now-preserved
loop-now-preserved g c = record {
  serving =
      serves_on c.args.now c.args.act c.args.knotes.now.slots c.args.uses.now c.args.single.now c.requires c.loop-now.knotes.slots c.loop-now.single c.loop-now.invariant.serving
      c.serve_one.new.knotes.slots c.serve_one.new.single (c.serve_one.ensures.served c.loop-now-test.true);
  entries = adds_more c.args.single.now c.loop-now.single c.serve_one.new.single c.args.act c.loop-now.invariant.entries c.serve_one.ensures.entries;
  capacity = c.serve_one.ensures.capacity ∙ c.loop-now.invariant.capacity;
}

pub loop-now-smaller : goal.loop-now-smaller
loop-now-smaller g c =
    omega (
      arith,
      fewer c.args.now c.args.act c.args.knotes.now.slots c.args.uses.now c.args.single.now c.requires c.loop-now.knotes.slots c.loop-now.single c.loop-now.invariant.serving
          c.serve_one.new.knotes.slots c.serve_one.new.single (c.serve_one.ensures.served c.loop-now-test.true),
    )

pub returns-clause-serving : goal.returns-clause-serving
returns-clause-serving g c =
    serves_last c.args.now c.args.act c.args.knotes.now.slots c.args.uses.now c.args.single.now c.requires c.loop-now.knotes.slots c.loop-now.single c.loop-now.invariant.serving
    c.serve_one.new.knotes.slots c.serve_one.new.single (c.serve_one.ensures.over c.loop-now-test.false)

pub returns-clause-entries : goal.returns-clause-entries
returns-clause-entries g c = adds_more c.args.single.now c.loop-now.single c.serve_one.new.single c.args.act c.loop-now.invariant.entries c.serve_one.ensures.entries
