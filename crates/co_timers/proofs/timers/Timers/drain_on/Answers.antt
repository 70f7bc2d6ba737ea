use Rattle.std.proofs.Common.{subst}
use Rattle.co_object.specs.declared.op.CallOp.TheVariants.{DrainTry}
use Rattle.co_timers.specs.Acts.{IsCallMade}
use Rattle.co_timers.specs.Drains.{again, start}
use Rattle.co_timers.proofs.Asked.{tries}
use Rattle.co_timers.proofs.timers.Timers.drain_on.Goals as goal

pub loop-init : goal.loop-init
loop-init g c = record { handle = c.requires.handle; waits = start }

pub loop-preserved : goal.loop-preserved
loop-preserved g c =
    let says = c.in-Waits.ensures in record {
      handle = c.make-reply.ensures.handle;
      waits = again c.loop.passes c.make-reply.new.passes c.loop.took c.in-Waits.n c.in-Waits.takes says.0 c.loop.invariant.waits
          (subst (λ r. IsCallMade c.loop.passes c.args.act c.args.i (DrainTry c.loop.took) r c.make-reply.new.passes) says.1 c.make-reply.ensures.made);
    }

pub make-reply-requires-clause-cleared : goal.make-reply-requires-clause-cleared
make-reply-requires-clause-cleared g c = c.requires.cleared

pub what_is-requires : goal.what_is-requires
what_is-requires g c = tries c.loop.passes c.make-reply.new.passes c.args.act c.args.i c.loop.took c.make-reply.result c.make-reply.ensures.made

pub returns-in-Over : goal.returns-in-Over
returns-in-Over g c = record {
  handle = c.make-reply.ensures.handle;
  drained = record {
    last = c.loop.passes;
    took = c.loop.took;
    waits = c.loop.invariant.waits;
    reply = c.make-reply.result;
    word = c.in-Over.ensures;
    made = c.make-reply.ensures.made;
  };
}
