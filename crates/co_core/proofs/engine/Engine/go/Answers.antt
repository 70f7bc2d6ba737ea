-- The ledger goes on as the plain world does.
use Rattle.std.proofs.Common.{sym, subst}
use Rattle.co_program.specs.Action.{Silent, Take}
use Rattle.co_program.specs.Cursor.{Cursor}
use Rattle.co_core.specs.Acting.{IsDue}
use Rattle.co_core.specs.Stands.{StandsFor}
use Rattle.co_core.specs.Written.{Booked, with_lists}
use Rattle.co_world.specs.Step.{step}
use Rattle.co_core.proofs.steps.Silent.{stands_silent, stands_take}
use Rattle.co_core.proofs.engine.Engine.go.Goals as goal

pub returns-clause-silent : goal.returns-clause-silent
returns-clause-silent c lists w stands due =
    let a = c.args.actor in
    let s = c.args.script.now in
    let by = c.go.ensures in
    subst (λ (b : Booked). StandsFor s (with_lists b lists) c.args.self.now.depot (step s w a)) (sym by.went)
    (stands_silent s (with_lists c.args.self.now.ledger lists) c.args.self.now.depot w a by.to stands due.may by.counts
    (subst (λ (x : Cursor). IsDue s w a (Silent x)) (sym by.place) due))

pub returns-clause-take : goal.returns-clause-take
returns-clause-take c held lists w stands due =
    let a = c.args.actor in
    let s = c.args.script.now in
    let by = c.go.ensures in
    subst (λ (b : Booked). StandsFor s (with_lists b lists) c.args.self.now.depot (step s w a)) (sym by.went)
    (stands_take s (with_lists c.args.self.now.ledger lists) c.args.self.now.depot w a by.to stands due.may by.counts held
    (subst (λ (x : Cursor). IsDue s w a (Take held x)) (sym by.place) due))
