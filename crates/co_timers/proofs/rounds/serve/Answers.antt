-- The parts of a service, one after the other: each keeps the actor's handle, and its arming is in service until the end.
use Rattle.std.proofs.Common.{ℕ, sym, ap, subst, ◌∙◌}
use Rattle.std.specs.Prelude.{is_some}
use Rattle.std.specs.declared.option.Option.{Option}
use Rattle.co_hand.specs.declared.fire.Fire.{Fire}
use Rattle.co_hand.specs.Handlers.{Needs}
use Rattle.co_object.specs.Queue.{Due}
use Rattle.co_desk.specs.Call.{notes_in}
use Rattle.co_desk.specs.Params.{spec_at}
use Rattle.co_desk.specs.Serving.{Runs}
use Rattle.co_desk.specs.declared.params.Params.{Params}
use Rattle.co_timers.specs.Handles.{HandleView}
use Rattle.co_timers.specs.Ports.{handle_of}
use Rattle.co_timers.specs.Rounds.{AreNeedsOf, DrainsIf, RunsIf, called_by, drain_of, fire_after, fire_of, hold_in}
use Rattle.co_timers.proofs.Fires.{drains_told, fire_exists}
use Rattle.co_timers.proofs.Kept.{drains_free, runs_about}
use Rattle.co_timers.proofs.rounds.serve.Goals as goal

pub run_if-ran-requires-clause-fire : goal.run_if-ran-requires-clause-fire
run_if-ran-requires-clause-fire g c =
    let d : Due = record { i = c.args.taken.now.i; n = c.args.taken.now.n } in
    fire_exists d c.args.cpu c.args.taken.now.at c.args.timers.now.params.cpus c.called_by-call.result c.fire_of-fire.result c.fire_of-fire.ensures c.requires.about.below

pub finish-made-requires : goal.finish-made-requires
finish-made-requires g c =
    let d : Due = record { i = c.args.taken.now.i; n = c.args.taken.now.n } in
    runs_about g.N.Name.name c.args.timers.now.params c.args.direct c.args.cpu d (Runs d.n) (g.H.Handler.needs c.args.handler.now) g.H.Handler.runs c.args.handler.now c.fire_of-fire.result (hold_in (spec_at c.args.timers.now.params d.i))
    (record { passes = c.begin_lane-said.new.passes; act = c.args.lane.act }) c.run_if-ran.new.handler (handle_of c.run_if-ran.result) c.run_if-ran.ensures.runs c.begin_lane-said.ensures.about

pub drained_if-over-requires-clause-needs : goal.drained_if-over-requires-clause-needs
drained_if-over-requires-clause-needs g c = subst (λ (n : Needs). AreNeedsOf n c.args.timers.now.params) (sym c.run_if-ran.ensures.needs) c.requires.needs

pub returns-clause-service : goal.returns-clause-service
returns-clause-service g c =
    let d : Due = record { i = c.args.taken.now.i; n = c.args.taken.now.n } in
    let needs : Needs = g.H.Handler.needs c.args.handler.now in
    let begun : HandleView = record { passes = c.begin_lane-said.new.passes; act = c.args.lane.act } in
    let ran : HandleView = handle_of c.run_if-ran.result in
    let over : HandleView = record { passes = c.finish-made.new.passes; act = c.run_if-ran.result.act } in
    let last : HandleView = handle_of c.drained_if-over.result in
    let told = subst (λ (o : Option Fire). RunsIf needs g.H.Handler.runs c.args.handler.now o (hold_in (spec_at c.args.timers.now.params d.i)) begun c.run_if-ran.new.handler ran)
    (c.fire_of-fire.ensures ∙ ap (fire_of d c.args.cpu c.args.taken.now.at) c.called_by-call.ensures) c.run_if-ran.ensures.runs in
    let drained = drains_told (g.H.Handler.needs c.run_if-ran.new.handler) g.H.Handler.runs c.run_if-ran.new.handler (fire_after d c.args.cpu c.args.taken.now.at c.called_by-call.result) c.fire_after-after.result
    c.drain_of-drain.result over c.drained_if-over.new.handler last c.fire_after-after.ensures c.drained_if-over.ensures.runs in
    record {
      said = c.begin_lane-said.result.0;
      begun = c.begin_lane-said.new.passes;
      begins = c.begin_lane-said.ensures.begins;
      between = c.run_if-ran.new.handler;
      ran = ran;
      function = subst (λ (p : Params). RunsIf needs g.H.Handler.runs c.args.handler.now (fire_of d c.args.cpu c.args.taken.now.at (called_by c.begin_lane-said.result.0)) (hold_in (spec_at p d.i)) begun c.run_if-ran.new.handler ran)
          (sym c.requires.about.handle.of.params_are) told;
      ended = c.finish-made.result.reply;
      notes = notes_in c.finish-made.result.notes;
      over = c.finish-made.new.passes;
      ends = c.finish-made.ensures.ended;
      drain = subst (λ (n : Needs). DrainsIf n g.H.Handler.runs c.run_if-ran.new.handler (fire_after d c.args.cpu c.args.taken.now.at (called_by c.begin_lane-said.result.0)) (drain_of c.finish-made.result.reply) over c.drained_if-over.new.handler last) c.run_if-ran.ensures.needs
          (subst (λ (o : Option ℕ). DrainsIf (g.H.Handler.needs c.run_if-ran.new.handler) g.H.Handler.runs c.run_if-ran.new.handler (fire_after d c.args.cpu c.args.taken.now.at (called_by c.begin_lane-said.result.0)) o over c.drained_if-over.new.handler last) c.drain_of-drain.ensures
          (subst (λ (call : Option (ℕ × ℕ)). DrainsIf (g.H.Handler.needs c.run_if-ran.new.handler) g.H.Handler.runs c.run_if-ran.new.handler (fire_after d c.args.cpu c.args.taken.now.at call) c.drain_of-drain.result over c.drained_if-over.new.handler last) c.called_by-call.ensures
          drained));
      called = c.is_some.ensures ∙ ap is_some c.called_by-call.ensures;
      drained = c.is_some-2.ensures ∙ ap is_some c.drain_of-drain.ensures;
    }

pub returns-clause-at_ease : goal.returns-clause-at_ease
returns-clause-at_ease g c =
    drains_free g.N.Name.name c.args.timers.now.params c.args.direct c.args.cpu (g.H.Handler.needs c.run_if-ran.new.handler) g.H.Handler.runs c.run_if-ran.new.handler (λ _. c.fire_after-after.result) c.drain_of-drain.result
    (record { passes = c.finish-made.new.passes; act = c.run_if-ran.result.act }) c.drained_if-over.new.handler (handle_of c.drained_if-over.result) c.drained_if-over.ensures.runs c.finish-made.ensures.at_ease
