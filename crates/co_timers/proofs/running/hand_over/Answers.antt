-- The function runs under the hold, unless there is none or it is released first.
use Rattle.std.proofs.Common.{◌≡◌, ◌∙◌, Bool, true, false, ap, refl, subst, sym}
use Rattle.std.specs.declared.option.Option.{Option}
use Rattle.std.specs.declared.option.Option.TheVariants.{None}
use Rattle.co_hand.specs.Handlers.{HasRun}
use Rattle.co_lock.specs.declared.held.Held.{Held}
use Rattle.co_timers.specs.Rounds.{unless_released}
use Rattle.co_timers.proofs.running.hand_over.Goals as goal

no_hold : (unlocked : Bool) → None ≡ unless_released unlocked None
no_hold true = refl
no_hold false = refl

pub returns-then-unlocked-clause-port : goal.returns-then-unlocked-clause-port
returns-then-unlocked-clause-port g c =
    let before = c.args.handler.now in
    subst (λ (h : Option Held). HasRun g.H.Handler.runs before c.args.fire.now None h ((g.H.Handler.needs before).calls c.args.fire.now.func) (g.P.Port.state c.args.port.now) (g.P.Port.state c.run_unlock.new.port) c.run_unlock.new.self)
    (sym (ap (λ (b : Bool). unless_released b c.args.hold) c.if-unlocked.true)) c.run_unlock.ensures.port

pub returns-else-unlocked-clause-port : goal.returns-else-unlocked-clause-port
returns-else-unlocked-clause-port g c =
    let before = c.args.handler.now in
    subst (λ (h : Option Held). HasRun g.H.Handler.runs before c.args.fire.now None h ((g.H.Handler.needs before).calls c.args.fire.now.func) (g.P.Port.state c.args.port.now) (g.P.Port.state c.run.new.port) c.run.new.self)
    (sym (ap (λ (b : Bool). unless_released b c.args.hold) c.if-unlocked.false ∙ c.in-Some.is)) c.run.ensures.port

pub returns-in-None-clause-port : goal.returns-in-None-clause-port
returns-in-None-clause-port g c =
    let before = c.args.handler.now in
    subst (λ (h : Option Held). HasRun g.H.Handler.runs before c.args.fire.now None h ((g.H.Handler.needs before).calls c.args.fire.now.func) (g.P.Port.state c.args.port.now) (g.P.Port.state c.run-in-None.new.port) c.run-in-None.new.self)
    (no_hold c.args.unlocked ∙ ap (unless_released c.args.unlocked) (sym c.in-None.is)) c.run-in-None.ensures.port
