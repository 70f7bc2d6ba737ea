-- The callout goes in between the head and the first of its list.
use Rattle.std.proofs.Common.{◌+◌, ℕ, set, refl, arith, subst, sym}
use Rattle.std.proofs.lemmas.List.{get_or_read}
use Rattle.co_bucket.specs.Rings.{IsRings}
use Rattle.co_bucket.proofs.Linked.{become, first-node, free-of}
use Rattle.co_bucket.proofs.PutIn.{lists-first, put-first}
use Rattle.co_bucket.proofs.rings.Rings.put_first.Goals as goal

pub overflow_add-head : goal.overflow_add-head
overflow_add-head c = omega (arith, c.args.self.now.small, c.requires.list)

pub index_mut-requires-2 : goal.index_mut-requires-2
index_mut-requires-2 c =
    let r = c.args.self.now in
    let rings = c.requires.linked in
    let first = get_or_read r.next.items (r.size + c.args.list) _ (omega (arith, c.requires.list, rings.next_long)) c.index-first.ensures 0 in
    omega (arith, first, first-node rings c.args.list c.requires.list, rings.prev_long, r.prev.ok.0)

pub returns : goal.returns
returns c =
    let r = c.args.self.now in
    let i = c.args.i in
    let j = c.args.list in
    let rings = c.requires.linked in
    let free = free-of r i c.requires.free c.requires.callout in
    let first = get_or_read r.next.items (r.size + j) _ (omega (arith, c.requires.list, rings.next_long)) c.index-first.ensures 0 in
    become r _ (lists-first rings i j c.requires.callout c.requires.list free) refl refl
    (subst (λ (x : ℕ). IsRings r.size r.count (set (set r.next.items (r.size + j) i) i x) (set (set r.prev.items x i) i (r.size + j)) (set r.place.items i j) (lists-first rings i j c.requires.callout c.requires.list free)) (sym first)
    (put-first rings i j c.requires.callout c.requires.list free))
