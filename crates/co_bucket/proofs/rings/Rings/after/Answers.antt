-- What comes after a callout is the first of what is left of its list.
use Rattle.std.proofs.Common.{◌∙◌, ℕ, cond, ap, arith, nat_lt}
use Rattle.std.specs.declared.option.Option.TheVariants.{Some, None}
use Rattle.std.proofs.lemmas.List.{get_or_read}
use Rattle.co_bucket.proofs.Linked.{callout-after}
use Rattle.co_bucket.proofs.rings.Rings.after.Goals as goal

pub returns : goal.returns
returns c k in' front rest is =
    let r = c.args.self.now in
    let rings = c.requires.linked in
    let next = get_or_read r.next.items c.args.i _ (omega (arith, c.requires.callout, rings.next_long)) c.index.ensures 0 in
    c.callout.ensures ∙ ap (λ (x : ℕ). cond (nat_lt x r.size) (Some x) None) next ∙ callout-after rings k in' front c.args.i rest is
