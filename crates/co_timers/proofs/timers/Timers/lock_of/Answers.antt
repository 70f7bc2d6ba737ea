use Rattle.std.proofs.Common.{◌≡◌, ap, sym, subst, ◌∙◌}
use Rattle.std.specs.declared.option.Option.TheVariants.{Some}
use Rattle.co_lock.specs.Service.{hold_of}
use Rattle.co_desk.specs.Params.{spec_at}
use Rattle.co_lock.specs.Locks.{CanBeHeld}
use Rattle.co_timers.proofs.timers.Timers.lock_of.Goals as goal

pub lock-requires-after_bounds : goal.lock-requires-after_bounds
lock-requires-after_bounds g c κs within =
    let held : hold_of (spec_at c.self.inside.params c.args.i).lock ≡ Some c.in-Some.held =
    ap (λ v. hold_of (spec_at v.params c.args.i).lock) c.self.view_is ∙ (sym (ap (λ s. hold_of s.lock) c.spec.ensures) ∙ sym c.in-Some.ensures) in
    subst (λ b. CanBeHeld c.self.inside.locks b c.in-Some.held.id) c.if-held.true (c.self.invariant.locks_are.each c.args.i c.in-Some.held held)

pub read-requires-after_bounds : goal.read-requires-after_bounds
read-requires-after_bounds g c κs within =
    let held : hold_of (spec_at c.self.inside.params c.args.i).lock ≡ Some c.in-Some.held =
    ap (λ v. hold_of (spec_at v.params c.args.i).lock) c.self.view_is ∙ (sym (ap (λ s. hold_of s.lock) c.spec.ensures) ∙ sym c.in-Some.ensures) in
    subst (λ b. CanBeHeld c.self.inside.locks b c.in-Some.held.id) c.if-held.false (c.self.invariant.locks_are.each c.args.i c.in-Some.held held)
