-- What comes after the head is the first of its list.
use Rattle.std.proofs.Common.{◌∙◌, ◌+◌, ℕ, cond, ap, arith, nat_lt}
use Rattle.std.specs.declared.option.Option.TheVariants.{Some, None}
use Rattle.std.proofs.lemmas.List.{get_or_read}
use Rattle.co_bucket.proofs.Linked.{callout-first}
use Rattle.co_bucket.proofs.rings.Rings.first.Goals as goal

pub overflow_add-self : goal.overflow_add-self
overflow_add-self c = omega (arith, c.args.self.now.small, c.requires.list)

pub returns : goal.returns
returns c =
    let r = c.args.self.now in
    let rings = c.requires.linked in
    let next = get_or_read r.next.items (r.size + c.args.list) _ (omega (arith, c.requires.list, rings.next_long)) c.index.ensures 0 in
    c.callout.ensures ∙ ap (λ (x : ℕ). cond (nat_lt x r.size) (Some x) None) next ∙ callout-first rings c.args.list c.requires.list
