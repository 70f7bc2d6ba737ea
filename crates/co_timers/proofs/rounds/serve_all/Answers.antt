-- Rounds, and one more.
use Rattle.std.proofs.Common.{refl, sym, subst, ◌∙◌}
use Rattle.co_hand.specs.Handlers.{Needs}
use Rattle.co_object.specs.Queue.{Due}
use Rattle.co_timers.specs.declared.turned.Served.{Served}
use Rattle.co_timers.specs.Handles.{HandleView}
use Rattle.co_timers.specs.Ports.{handle_of}
use Rattle.co_timers.specs.Rounds.{AreRounds, IsLaneService, IsRound, again, start}
use Rattle.co_timers.proofs.rounds.serve_all.Goals as goal

pub loop-init : goal.loop-init
loop-init g c = record { at_ease = c.requires.at_ease; needs = refl; rounds = start }

pub loop-preserved : goal.loop-preserved
loop-preserved g c =
    let first : Needs = g.H.Handler.needs c.args.handler.now in
    let before : HandleView = handle_of c.loop.here in
    let after : HandleView = handle_of c.serve-next.result.0 in
    let due : Due = record { i = c.in-Took.i; n = c.in-Took.n } in
    let taken : HandleView = record { passes = c.take.new.passes; act = c.loop.here.act } in
    let one : IsRound first g.H.Handler.runs c.args.direct c.args.cpu c.args.act c.loop.handler before c.serve-next.result.1 c.serve-next.new.handler after = record {
      due_is = due;
      time = c.in-Took.at;
      reply = c.in-Took.reply;
      pop = c.in-Took.pop;
      pick = c.in-Took.pick;
      taken = c.take.new.passes;
      takes = c.in-Took.ensures.taken;
      serves = subst (λ (n : Needs). IsLaneService n g.H.Handler.runs c.args.direct c.args.cpu c.args.act due c.in-Took.at c.in-Took.reply c.loop.handler taken c.serve-next.result.1 c.serve-next.new.handler after)
          c.loop.invariant.needs c.serve-next.ensures.service;
    } in record {
      at_ease = c.serve-next.ensures.at_ease;
      needs = c.serve-next.ensures.needs ∙ c.loop.invariant.needs;
      rounds = subst (λ (s : Served). AreRounds first g.H.Handler.runs c.args.direct c.args.cpu c.args.act c.args.handler.now (handle_of c.args.lane) s c.serve-next.new.handler after) (sym c.served_after-served.ensures)
          (again c.loop.served c.serve-next.result.1 c.loop.handler c.serve-next.new.handler before after c.loop.invariant.rounds one);
    }

pub returns-in-Empty : goal.returns-in-Empty
returns-in-Empty g c = record {
  served = record {
    last = handle_of c.loop.here;
    rounds = c.loop.invariant.rounds;
    over = record { note = c.in-Empty.note; nothing = c.in-Empty.ensures.taken; follows = c.in-Empty.ensures.scans; same = refl };
  };
  at_ease = record { below = c.loop.invariant.at_ease.below; handle = c.in-Empty.ensures.next.handle; free = c.in-Empty.ensures.next.next };
  needs = c.loop.invariant.needs;
}
