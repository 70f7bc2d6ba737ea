use Rattle.std.proofs.Common.{◌≡◌, true, ℕ, sym, ap, ◌∙◌, subst}
use Rattle.co_desk.specs.declared.outs.Taken.{Taken}
use Rattle.co_desk.specs.Services.{HasNext, IsTaken, taken_of}
use Rattle.co_service.proofs.service.Service.next_direct.Goals as goal

pub returns-clause-taken : goal.returns-clause-taken
returns-clause-taken g c =
    let out = c.pop-popped in
    let told : c.answer.result ≡ taken_of true c.args.passes.now.actor c.args.act c.args.cpu out.result = c.answer.ensures ∙ ap (λ (a : ℕ). taken_of true a c.args.act c.args.cpu out.result) c.actor-actor.ensures in
    subst (λ (t : Taken). IsTaken true c.args.passes.now c.args.cpu c.args.act t out.new.passes) (sym told) out.ensures.started.taken

pub returns-clause-kept : goal.returns-clause-kept
returns-clause-kept g c =
    let out = c.pop-popped in
    let told : c.answer.result ≡ taken_of true c.args.passes.now.actor c.args.act c.args.cpu out.result = c.answer.ensures ∙ ap (λ (a : ℕ). taken_of true a c.args.act c.args.cpu out.result) c.actor-actor.ensures in
    record {
      of = out.ensures.kept.of;
      actor_is = out.ensures.kept.actor_is;
      next = subst (λ (t : Taken). HasNext true out.new.passes c.args.cpu t) (sym told) out.ensures.kept.next;
    }
