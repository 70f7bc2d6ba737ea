-- A drain that was made is an act, and one that was refused has changed nothing.
use Rattle.std.proofs.Common.{◌≡◌, ap, false, subst, sym, ◌∙◌}
use Rattle.std.specs.Option.{option_copied}
use Rattle.std.specs.Prelude.{Ok, Err}
use Rattle.std.specs.declared.option.Option.{Option}
use Rattle.std.specs.declared.option.Option.TheVariants.{None, Some}
use Rattle.co_lock.specs.declared.held.Held.{Held}
use Rattle.co_object.specs.declared.op.CallOp.TheVariants.{DrainTry}
use Rattle.co_desk.specs.declared.params.Params.{Params}
use Rattle.co_timers.specs.Answers.{refusal}
use Rattle.co_timers.specs.Drains.{IsDrained}
use Rattle.co_timers.specs.Handles.{HandleView}
use Rattle.co_timers.proofs.client.Client.drain.Goals as goal

pub drain_on-said-requires-clause-cleared : goal.drain_on-said-requires-clause-cleared
drain_on-said-requires-clause-cleared g c =
    sym (c.refusal.ensures ∙ ap (λ (held : Option Held). refusal c.self.inside.timers.now.params held c.args.i (DrainTry false)) c.held_of.ensures) ∙ c.in-None.is

pub returns-in-None-clause-answer : goal.returns-in-None-clause-answer
returns-in-None-clause-answer g c =
    let hold = option_copied c.args.hold in
    let before : HandleView = record { passes = c.self.inside.passes; act = c.self.inside.act } in
    let after : HandleView = record { passes = c.drain_on-said.new.passes; act = c.saturating_add-self-inside.result } in
    let none = sym (c.refusal.ensures ∙ ap (λ (held : Option Held). refusal c.self.inside.timers.now.params held c.args.i (DrainTry false)) c.held_of.ensures) ∙ c.in-None.is in
    subst (λ (p : HandleView). IsDrained p hold c.args.i (Ok c.drain_on-said.result) after) c.self.view_is
    (subst (λ (r : Params). refusal r hold c.args.i (DrainTry false) ≡ None) (sym c.self.invariant.of.params_are) none, record { drained = c.drain_on-said.ensures.drained; counts = c.saturating_add-self-inside.ensures })

pub returns-in-Some-clause-answer : goal.returns-in-Some-clause-answer
returns-in-Some-clause-answer g c =
    let hold = option_copied c.args.hold in
    let some = sym (c.refusal.ensures ∙ ap (λ (held : Option Held). refusal c.self.inside.timers.now.params held c.args.i (DrainTry false)) c.held_of.ensures) ∙ c.in-Some.is in
    subst (λ (p : HandleView). IsDrained p hold c.args.i (Err c.in-Some.why) c.args.self.now) c.self.view_is
    (subst (λ (r : Params). refusal r hold c.args.i (DrainTry false) ≡ Some c.in-Some.why) (sym c.self.invariant.of.params_are) some, sym c.self.view_is)
