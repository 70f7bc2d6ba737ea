-- A turn is an act of the interrupt, and then one of the CPU's own actor.
use Rattle.std.proofs.Common.{ℕ, false, refl, subst, true}
use Rattle.co_hand.specs.Handlers.{Needs}
use Rattle.co_timers.specs.Handles.{next_act}
use Rattle.co_timers.specs.Ports.{handle_of}
use Rattle.co_timers.specs.Rounds.{IsLaneServed}
use Rattle.co_timers.proofs.cpu.Lanes.turn.Goals as goal

pub returns-clause-turned : goal.returns-clause-turned
returns-clause-turned g c =
    let needs : Needs = g.H.Handler.needs c.args.handler.now in
    let between = c.serve_all-direct.new.handler in
    let direct = c.args.self.direct in
    let others = c.args.self.others in
    record {
      out = c.scan-scanned.result;
      scanned = c.scan-scanned.new.passes;
      scan = c.scan-scanned.ensures.scanned;
      count = refl;
      between = between;
      direct = subst (λ (act : ℕ). IsLaneServed needs g.H.Handler.runs true c.args.cpu direct.act 0 c.args.handler.now (record { passes = c.scan-scanned.new.passes; act = act }) c.serve_all-direct.result.1 between (handle_of c.serve_all-direct.result.0))
          c.saturating_add.ensures c.serve_all-direct.ensures.served;
      others = subst (λ (n : Needs). IsLaneServed n g.H.Handler.runs false c.args.cpu others.act c.saturating_add-turns.result between (record { passes = others.passes; act = next_act others.act }) c.serve_all-others.result.1 c.serve_all-others.new.handler (handle_of c.serve_all-others.result.0))
          c.serve_all-direct.ensures.needs
          (subst (λ (act : ℕ). IsLaneServed (g.H.Handler.needs between) g.H.Handler.runs false c.args.cpu others.act c.saturating_add-turns.result between (record { passes = others.passes; act = act }) c.serve_all-others.result.1 c.serve_all-others.new.handler (handle_of c.serve_all-others.result.0))
          c.saturating_add-2.ensures c.serve_all-others.ensures.served);
      turns = c.saturating_add-turns.ensures;
      same = refl;
    }
