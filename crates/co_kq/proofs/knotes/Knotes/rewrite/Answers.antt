use Rattle.std.proofs.Common.{◌≡◌, sym, ap, ◌∙◌, arith, Some, None, subst}
use Rattle.slab.specs.Slab.{Updates, get}
use Rattle.co_kq.specs.declared.knote.Slot.{Slot}
use Rattle.co_kq.specs.Index.{IsChanged}
use Rattle.co_kq.specs.Slots.{AreDistinct, IsAlone}
use Rattle.co_kq.specs.Changes.{IsKnotePut}
use Rattle.co_kq.proofs.InSlots.{rewritten, some_is, updated, free_where_alone, distinct_put}
use Rattle.co_kq.proofs.Listing.{listed_quiet}
use Rattle.co_kq.proofs.knotes.Knotes.rewrite.Goals as goal

pub invariant_of-self : goal.invariant_of-self
invariant_of-self c =
    let old = c.self.inside.slab in
    let new = c.insert_reserved.new.self in
    let e = c.remove-slot.ensures in
    let x = c.remove-slot.result in
    let y : Slot = record { knote = c.args.knote; timer = x.timer } in
    let at : c.insert_reserved.result ≡ c.args.key = c.insert_reserved.ensures.key ∙ e.key_is_next in
    let updates : Updates old new c.args.key (Some y) = updated old c.remove-slot.new.self new c.args.key y e.updates (subst (λ k. Updates c.remove-slot.new.self new k (Some y)) at c.insert_reserved.ensures.updates) in
    let there : get old c.args.key ≡ Some c.requires.there.slot = ap (λ k. get k c.args.key) c.self.view_is ∙ c.requires.there.there in
    let is : x ≡ c.requires.there.slot = some_is x c.requires.there.slot (sym e.value ∙ there) in
    let same : y.knote.ident ≡ x.knote.ident = sym (ap (λ s. s.knote.ident) is ∙ c.requires.there.ident_is) in
    let distinct = subst (λ k. AreDistinct k.slots) (sym c.self.view_is) c.requires.distinct in
    listed_quiet old new c.self.inside.order c.self.inside.ready c.remove.new.self c.args.key x y c.self.invariant e.value updates (distinct c.args.key x e.value) same c.remove.ensures.room
    (omega (arith, c.insert_reserved.ensures.len, e.len)) (c.insert_reserved.ensures.capacity ∙ e.capacity) c.requires.fresh (subst (λ i. IsChanged c.self.inside.ready.entries i None c.remove.new.self.entries) same c.remove.ensures.changed)

pub returns-clause-put : goal.returns-clause-put
returns-clause-put c =
    let old = c.self.inside.slab in
    let new = c.insert_reserved.new.self in
    let e = c.remove-slot.ensures in
    let y : Slot = record { knote = c.args.knote; timer = c.remove-slot.result.timer } in
    let at : c.insert_reserved.result ≡ c.args.key = c.insert_reserved.ensures.key ∙ e.key_is_next in
    let updates : Updates old new c.args.key (Some y) = updated old c.remove-slot.new.self new c.args.key y e.updates (subst (λ k. Updates c.remove-slot.new.self new k (Some y)) at c.insert_reserved.ensures.updates) in
    let there : get old c.args.key ≡ Some c.requires.there.slot = ap (λ k. get k c.args.key) c.self.view_is ∙ c.requires.there.there in
    let distinct = subst (λ k. AreDistinct k.slots) (sym c.self.view_is) c.requires.distinct in
    let alone = distinct c.args.key c.requires.there.slot there in
    let alone_too = subst (λ i. IsAlone old.slots c.args.key i) c.requires.there.ident_is alone in
    let is_put : IsKnotePut old new c.args.key y 1 = record {
      list = rewritten old new c.args.key c.requires.there.slot y there (sym c.requires.there.ident_is) updates alone;
      changed = record {
        distinct = distinct_put old new c.args.key y updates (free_where_alone old.slots c.args.key c.args.knote.ident alone_too) distinct;
        updates = updates;
        len = omega (arith, c.insert_reserved.ensures.len, e.len);
        capacity = c.insert_reserved.ensures.capacity ∙ e.capacity;
      };
    } in
    subst (λ k. IsKnotePut k new c.args.key y 1) c.self.view_is is_put
