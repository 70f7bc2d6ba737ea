-- The function of a drain runs exactly where one awaited the end.
use Rattle.std.proofs.Common.{ℕ, refl, rules, subst, sym}
use Rattle.std.specs.declared.option.Option.{Option}
use Rattle.co_timers.specs.Ports.{handle_of}
use Rattle.co_timers.specs.Rounds.{DrainsIf}
use Rattle.co_timers.proofs.running.drained_if.Goals as goal

pub returns-in-Some-clause-runs : goal.returns-in-Some-clause-runs
returns-in-Some-clause-runs g c =
    let before = c.args.handler.now in
    subst (λ (o : Option ℕ). DrainsIf (g.H.Handler.needs before) g.H.Handler.runs before (λ _. c.args.fire.now) o (handle_of c.args.lane) c.drained.new.self (handle_of c.into_lane.result)) (sym c.in-Some.is) (search rules)

pub returns-in-None-clause-runs : goal.returns-in-None-clause-runs
returns-in-None-clause-runs g c =
    let before = c.args.handler.now in
    subst (λ (o : Option ℕ). DrainsIf (g.H.Handler.needs before) g.H.Handler.runs before (λ _. c.args.fire.now) o (handle_of c.args.lane) before (handle_of c.args.lane)) (sym c.in-None.is) (refl, refl)
