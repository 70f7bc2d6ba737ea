-- The callout answers as its wheel does, and its function is kept where the arming is accepted.
use Rattle.std.proofs.Common.{ℕ, List, get_or, ap, sym, subst, ◌∙◌, arith}
use Rattle.std.proofs.lemmas.List.{with_items_is}
use Rattle.co_wheel.specs.Sections.{IsCall}
use Rattle.co_embed.specs.Calls.{IsSent, kept_func}
use Rattle.co_embed.specs.Embedded.{Embedded}
use Rattle.co_embed.proofs.embed.Embed.arm.Goals as goal

pub returns-in-Ok : goal.returns-in-Ok
returns-in-Ok c =
    let done = c.in-Ok.ensures in
    let out = c.call.new.out in
    record {
      out = out;
      call = subst (λ (e : Embedded). IsCall c.args.self.now.cpu e.cpu c.args.id c.args.op.now out) (sym c.self.view_is) done.call;
      funcs = with_items_is c.self.inside.funcs c.keep_func.new.funcs (omega arith) ∙ c.keep_func.ensures
          ∙ ap (λ (words : List ℕ). kept_func words c.args.id c.args.func out.reply) (c.deref_mut.ensures.value ∙ ap (λ (e : Embedded). e.funcs) c.self.view_is ∙ done.funcs);
      drains = ap (λ (e : Embedded). e.drains) c.self.view_is ∙ done.drains;
      told = c.told_call.ensures;
      sent = subst (λ (words : List ℕ). IsSent out.leaves (get_or words c.args.id 0) c.args.parcel.now c.send_if.new.parcel) c.deref.ensures.value c.send_if.ensures;
    }
