-- The function of the service runs exactly where one is told.
use Rattle.std.proofs.Common.{◌≡◌, ◌<◌, ℕ, refl, rules, subst, sym}
use Rattle.std.specs.Prelude.{IfSome}
use Rattle.std.specs.declared.option.Option.{Option}
use Rattle.std.specs.declared.option.Option.TheVariants.{None}
use Rattle.co_hand.specs.declared.fire.Fire.{Fire}
use Rattle.co_lock.specs.Service.{hold_of}
use Rattle.co_desk.specs.Params.{spec_at}
use Rattle.co_timers.specs.Ports.{handle_of}
use Rattle.co_timers.specs.Rounds.{IsRun, RunsIf, hold_in}
use Rattle.co_timers.proofs.running.run_if.Goals as goal

pub returns-in-Some-clause-runs : goal.returns-in-Some-clause-runs
returns-in-Some-clause-runs g c =
    let params = c.args.timers.now.params in
    let before = c.args.handler.now in
    let told = subst (λ (o : Option Fire). IfSome o (λ f. (f.i ≡ c.args.i) × (f.cpu < params.cpus))) c.in-Some.is c.requires.fire in
    let hold = subst (λ (i : ℕ). c.args.hold ≡ hold_of (spec_at params i).lock) (sym told.0) c.requires.hold in
    subst (λ (o : Option Fire). RunsIf (g.H.Handler.needs before) g.H.Handler.runs before o (hold_in (spec_at params c.args.i)) (handle_of c.args.lane) c.hand_over.new.handler (handle_of c.into_lane.result)) (sym c.in-Some.is)
    (subst (λ (i : ℕ). IsRun (g.H.Handler.needs before) g.H.Handler.runs before c.in-Some.fire None (hold_in (spec_at params i)) c.in-Some.fire.func (handle_of c.args.lane) c.hand_over.new.handler (handle_of c.into_lane.result)) told.0 (search (rules, hold)))

pub returns-in-None-clause-runs : goal.returns-in-None-clause-runs
returns-in-None-clause-runs g c =
    let before = c.args.handler.now in
    subst (λ (o : Option Fire). RunsIf (g.H.Handler.needs before) g.H.Handler.runs before o (hold_in (spec_at c.args.timers.now.params c.args.i)) (handle_of c.args.lane) before (handle_of c.args.lane)) (sym c.in-None.is) (refl, refl)
