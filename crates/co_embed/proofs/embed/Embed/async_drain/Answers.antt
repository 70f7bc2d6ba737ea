-- The callout answers as its wheel does, and its drain function is kept where the drain is accepted.
use Rattle.std.proofs.Common.{ℕ, List, ap, sym, subst, ◌∙◌, arith}
use Rattle.std.proofs.lemmas.List.{with_items_is}
use Rattle.co_object.specs.declared.op.CallOp.TheVariants.{Plain}
use Rattle.co_object.specs.declared.op.PlainOp.TheVariants.{AsyncDrain}
use Rattle.co_wheel.specs.Sections.{IsCall}
use Rattle.co_embed.specs.Calls.{kept_drain}
use Rattle.co_embed.specs.Embedded.{Embedded}
use Rattle.co_embed.proofs.embed.Embed.async_drain.Goals as goal

pub returns-in-Ok : goal.returns-in-Ok
returns-in-Ok c =
    let done = c.in-Ok.ensures in
    let out = c.call.new.out in
    record {
      out = out;
      call = subst (λ (e : Embedded). IsCall c.args.self.now.cpu e.cpu c.args.id (Plain (AsyncDrain 0)) out) (sym c.self.view_is) done.call;
      funcs = ap (λ (e : Embedded). e.funcs) c.self.view_is ∙ done.funcs;
      drains = with_items_is c.self.inside.drains c.keep_drain.new.drains (omega arith) ∙ c.keep_drain.ensures
          ∙ ap (λ (words : List ℕ). kept_drain words c.args.id c.args.func out.reply) (c.deref_mut.ensures.value ∙ ap (λ (e : Embedded). e.drains) c.self.view_is ∙ done.drains);
      told = c.told_call.ensures;
    }
