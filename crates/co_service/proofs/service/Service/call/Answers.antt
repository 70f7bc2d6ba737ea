use Rattle.std.proofs.Common.{ℕ, List, sym, ap, ◌∙◌, subst}
use Rattle.co_object.specs.declared.note.Note.{Note}
use Rattle.co_object.specs.declared.reply.Reply.{Reply}
use Rattle.co_desk.specs.Call.{IsCalled, told_notes}
use Rattle.co_service.proofs.service.Service.call.Goals as goal

pub returns-clause-called : goal.returns-clause-called
returns-clause-called g c =
    let out = c.call_into in
    let made = c.answer.ensures in
    subst (λ (t : Reply × List Note). IsCalled c.args.passes.now c.args.act c.args.i c.args.op.now t.0 t.1 out.new.passes)
    (λ d. (sym made.reply d, sym (made.notes ∙ ap (λ (a : ℕ). told_notes a c.args.act c.args.i c.args.op.now out.new.told) c.actor-actor.ensures) d)) out.ensures.called
