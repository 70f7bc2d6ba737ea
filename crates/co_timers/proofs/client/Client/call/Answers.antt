-- A call that was made is an act, and one that was refused has changed nothing.
use Rattle.std.proofs.Common.{ap, refl, subst, sym, ◌∙◌}
use Rattle.std.specs.Option.{option_copied}
use Rattle.std.specs.Prelude.{Ok, Err}
use Rattle.std.specs.declared.option.Option.{Option}
use Rattle.std.specs.declared.option.Option.TheVariants.{Some}
use Rattle.co_lock.specs.declared.held.Held.{Held}
use Rattle.co_object.specs.declared.op.CallOp.TheVariants.{Plain}
use Rattle.co_object.specs.declared.reply.Reply.{Reply}
use Rattle.co_timers.specs.Answers.{IsSaid, refusal}
use Rattle.co_timers.specs.Handles.{HandleView}
use Rattle.co_timers.proofs.Asked.{made_said, refused_said}
use Rattle.co_timers.proofs.client.Client.call.Goals as goal

pub make-reply-requires-clause-cleared : goal.make-reply-requires-clause-cleared
make-reply-requires-clause-cleared g c =
    sym (c.refusal.ensures ∙ ap (λ (held : Option Held). refusal c.self.inside.timers.now.params held c.args.i (Plain c.args.op.now)) c.held_of.ensures) ∙ c.in-None.is

pub returns-in-None-clause-answer : goal.returns-in-None-clause-answer
returns-in-None-clause-answer g c =
    let params = c.self.inside.timers.now.params in
    let hold = option_copied c.args.hold in
    let before : HandleView = record { passes = c.self.inside.passes; act = c.self.inside.act } in
    let after : HandleView = record { passes = c.make-reply.new.passes; act = c.saturating_add-self-inside.result } in
    subst (λ (p : HandleView). IsSaid {A = Reply} Some p hold c.args.i (Plain c.args.op.now) (Ok c.make-reply.result) after) c.self.view_is
    (made_said before after params hold c.args.i (Plain c.args.op.now) c.make-reply.result c.self.invariant.of.params_are
    (sym (c.refusal.ensures ∙ ap (λ (held : Option Held). refusal params held c.args.i (Plain c.args.op.now)) c.held_of.ensures) ∙ c.in-None.is) c.make-reply.ensures.made c.saturating_add-self-inside.ensures)

pub returns-in-Some-clause-answer : goal.returns-in-Some-clause-answer
returns-in-Some-clause-answer g c =
    let params = c.self.inside.timers.now.params in
    let hold = option_copied c.args.hold in
    let before : HandleView = record { passes = c.self.inside.passes; act = c.self.inside.act } in
    subst (λ (p : HandleView). IsSaid {A = Reply} Some p hold c.args.i (Plain c.args.op.now) (Err c.in-Some.why) c.args.self.now) c.self.view_is
    (refused_said {A = Reply} Some before c.args.self.now params hold c.args.i (Plain c.args.op.now) (Err c.in-Some.why) c.in-Some.why refl c.self.invariant.of.params_are
    (sym (c.refusal.ensures ∙ ap (λ (held : Option Held). refusal params held c.args.i (Plain c.args.op.now)) c.held_of.ensures) ∙ c.in-Some.is) (sym c.self.view_is))
