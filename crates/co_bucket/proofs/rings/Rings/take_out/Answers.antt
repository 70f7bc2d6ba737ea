-- The neighbours of a callout are numbers of the rings, and its list closes behind it.
use Rattle.std.proofs.Common.{ℕ, get_or, set, refl, arith, subst, sym}
use Rattle.std.proofs.lemmas.List.{get_or_read}
use Rattle.co_bucket.specs.Rings.{IsRings, list_of, without}
use Rattle.co_bucket.proofs.Linked.{become, listed-parts}
use Rattle.co_bucket.proofs.TakenOut.{next-node, prev-node, taken-out}
use Rattle.co_bucket.proofs.rings.Rings.take_out.Goals as goal

pub index_mut-requires : goal.index_mut-requires
index_mut-requires c =
    let r = c.args.self.now in
    let rings = c.requires.linked in
    let here = listed-parts r c.args.i c.requires.listed in
    let before = get_or_read r.prev.items c.args.i _ (omega (arith, here.0, rings.prev_long)) c.index-before.ensures 0 in
    omega (arith, before, prev-node rings c.args.i here.0 here.1, rings.next_long, r.next.ok.0)

pub index_mut-requires-2 : goal.index_mut-requires-2
index_mut-requires-2 c =
    let r = c.args.self.now in
    let rings = c.requires.linked in
    let here = listed-parts r c.args.i c.requires.listed in
    let after = get_or_read r.next.items c.args.i _ (omega (arith, here.0, rings.next_long)) c.index-after.ensures 0 in
    omega (arith, after, next-node rings c.args.i here.0 here.1, rings.prev_long, r.prev.ok.0)

pub returns-clause-out : goal.returns-clause-out
returns-clause-out c =
    let r = c.args.self.now in
    let i = c.args.i in
    let rings = c.requires.linked in
    let here = listed-parts r i c.requires.listed in
    let before = get_or_read r.prev.items i _ (omega (arith, here.0, rings.prev_long)) c.index-before.ensures 0 in
    let after = get_or_read r.next.items i _ (omega (arith, here.0, rings.next_long)) c.index-after.ensures 0 in
    become r _ (λ k. without i (list_of r k)) refl refl
    (subst (λ (x : ℕ). IsRings r.size r.count (set r.next.items x c.index-after.result.now) (set r.prev.items c.index-after.result.now x) (set r.place.items i r.count) (λ k. without i (list_of r k))) (sym before)
    (subst (λ (y : ℕ). IsRings r.size r.count (set r.next.items (get_or r.prev.items i 0) y) (set r.prev.items y (get_or r.prev.items i 0)) (set r.place.items i r.count) (λ k. without i (list_of r k))) (sym after)
    (taken-out rings i here.0 here.1)))
