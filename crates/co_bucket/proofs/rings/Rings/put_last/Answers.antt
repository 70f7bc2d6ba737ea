-- The callout goes in between the last of its list and the head.
use Rattle.std.proofs.Common.{◌+◌, ℕ, set, refl, arith, subst, sym}
use Rattle.std.proofs.lemmas.List.{get_or_read}
use Rattle.co_bucket.specs.Rings.{IsRings}
use Rattle.co_bucket.proofs.Linked.{become, last-node, free-of}
use Rattle.co_bucket.proofs.PutIn.{lists-last, put-last}
use Rattle.co_bucket.proofs.rings.Rings.put_last.Goals as goal

pub overflow_add-head : goal.overflow_add-head
overflow_add-head c = omega (arith, c.args.self.now.small, c.requires.list)

pub index_mut-requires : goal.index_mut-requires
index_mut-requires c =
    let r = c.args.self.now in
    let rings = c.requires.linked in
    let last = get_or_read r.prev.items (r.size + c.args.list) _ (omega (arith, c.requires.list, rings.prev_long)) c.index-last.ensures 0 in
    omega (arith, last, last-node rings c.args.list c.requires.list, rings.next_long, r.next.ok.0)

pub returns : goal.returns
returns c =
    let r = c.args.self.now in
    let i = c.args.i in
    let j = c.args.list in
    let rings = c.requires.linked in
    let free = free-of r i c.requires.free c.requires.callout in
    let last = get_or_read r.prev.items (r.size + j) _ (omega (arith, c.requires.list, rings.prev_long)) c.index-last.ensures 0 in
    become r _ (lists-last rings i j c.requires.callout c.requires.list free) refl refl
    (subst (λ (x : ℕ). IsRings r.size r.count (set (set r.next.items x i) i (r.size + j)) (set (set r.prev.items (r.size + j) i) i x) (set r.place.items i j) (lists-last rings i j c.requires.callout c.requires.list free)) (sym last)
    (put-last rings i j c.requires.callout c.requires.list free))
