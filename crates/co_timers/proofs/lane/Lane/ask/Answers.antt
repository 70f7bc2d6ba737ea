-- The hold covers the call by the spec of the callout, which the actor's passes have too.
use Rattle.std.proofs.Common.{ap, refl, sym, ◌∙◌}
use Rattle.std.specs.Option.{option_copied}
use Rattle.std.specs.declared.option.Option.{Option}
use Rattle.co_lock.specs.declared.held.Held.{Held}
use Rattle.co_lock.specs.Covers.{covers}
use Rattle.co_object.specs.declared.op.CallOp.TheVariants.{Plain}
use Rattle.co_object.specs.declared.spec.Spec.{Spec}
use Rattle.co_desk.specs.declared.params.Params.{Params}
use Rattle.co_desk.specs.Params.{spec_at}
use Rattle.co_timers.proofs.Allowed.{allowed}
use Rattle.co_timers.proofs.lane.Lane.ask.Goals as goal

pub make-reply-requires-clause-cleared : goal.make-reply-requires-clause-cleared
make-reply-requires-clause-cleared g c =
    allowed c.args.timers.now.params (option_copied c.args.hold) c.args.i c.args.op.now c.requires.callout c.requires.cpu
    (sym (c.covers.ensures ∙ (ap (λ (held : Option Held). covers held c.spec.result (Plain c.args.op.now)) c.held_of.ensures ∙ ap (λ (s : Spec). covers (option_copied c.args.hold) s (Plain c.args.op.now)) c.spec.ensures)) ∙ c.if-not-covers.false)

pub returns-clause-came : goal.returns-clause-came
returns-clause-came g c = (
  ap (λ (r : Params). covers (option_copied c.args.hold) (spec_at r c.args.i) (Plain c.args.op.now)) c.requires.handle.of.params_are
      ∙ (sym (c.covers.ensures ∙ (ap (λ (held : Option Held). covers held c.spec.result (Plain c.args.op.now)) c.held_of.ensures ∙ ap (λ (s : Spec). covers (option_copied c.args.hold) s (Plain c.args.op.now)) c.spec.ensures)) ∙ c.if-not-covers.false),
  record { made = c.make-reply.ensures.made; counts = c.saturating_add-self.ensures },
)

pub returns-then-not-covers-clause-came : goal.returns-then-not-covers-clause-came
returns-then-not-covers-clause-came g c = (
  ap (λ (r : Params). covers (option_copied c.args.hold) (spec_at r c.args.i) (Plain c.args.op.now)) c.requires.handle.of.params_are
      ∙ (sym (c.covers.ensures ∙ (ap (λ (held : Option Held). covers held c.spec.result (Plain c.args.op.now)) c.held_of.ensures ∙ ap (λ (s : Spec). covers (option_copied c.args.hold) s (Plain c.args.op.now)) c.spec.ensures)) ∙ c.if-not-covers.true),
  refl,
)
