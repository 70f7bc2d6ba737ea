use Rattle.std.proofs.Common.{true, ℕ, List, sym, ap, ◌∙◌, subst}
use Rattle.co_object.specs.declared.note.Note.{Note}
use Rattle.co_object.specs.declared.reply.Reply.{Reply}
use Rattle.co_desk.specs.Ends.{finished_notes}
use Rattle.co_desk.specs.Services.{IsEnded}
use Rattle.co_service.proofs.service.Service.end_direct.Goals as goal

pub returns-clause-ended : goal.returns-clause-ended
returns-clause-ended g c = λ d is.
    let out = c.end_into in
    let made = c.answer.ensures in
    subst (λ (t : Reply × List Note). IsEnded true c.args.passes.now c.args.cpu c.args.act d t.0 t.1 out.new.passes)
    (λ k. (sym made.reply k, sym (made.notes ∙ ap (λ (a : ℕ). finished_notes a c.args.act out.new.told) c.actor-actor.ensures) k)) (out.ensures.ended d is)
