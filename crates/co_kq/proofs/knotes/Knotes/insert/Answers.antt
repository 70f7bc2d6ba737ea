use Rattle.std.proofs.Common.{sym, subst, arith}
use Rattle.slab.specs.Slab.{HasRoomFor}
use Rattle.co_kq.specs.declared.knote.Slot.{Slot}
use Rattle.co_kq.specs.Slots.{AreDistinct, HasNoIdent}
use Rattle.co_kq.specs.Changes.{IsKnotePut}
use Rattle.co_kq.proofs.InSlots.{inserted, free_where_absent, distinct_put}
use Rattle.co_kq.proofs.Listing.{new_absent, listed_new}
use Rattle.co_kq.proofs.knotes.Knotes.insert.Goals as goal

pub insert-requires-clause-absent : goal.insert-requires-clause-absent
insert-requires-clause-absent c =
    let absent = subst (λ k. HasNoIdent k.slots c.args.knote.ident) (sym c.self.view_is) c.requires.absent in
    new_absent c.self.inside.slab c.self.inside.order c.self.inside.ready c.insert_reserved-key.result c.args.knote.ident c.self.invariant c.insert_reserved-key.ensures.was_vacant absent

pub invariant_of-self : goal.invariant_of-self
invariant_of-self c =
    let e = c.insert_reserved-key.ensures in
    let y : Slot = record { knote = c.args.knote; timer = c.args.timer } in
    let absent = subst (λ k. HasNoIdent k.slots c.args.knote.ident) (sym c.self.view_is) c.requires.absent in
    listed_new c.self.inside.slab c.insert_reserved-key.new.self c.self.inside.order c.self.inside.ready c.insert.new.self c.insert_reserved-key.result y c.self.invariant e.was_vacant e.updates
    absent c.requires.fresh c.insert.ensures.changed c.insert.ensures.room e.len (subst (λ k. HasRoomFor k 1) (sym c.self.view_is) c.requires.room) e.capacity

pub returns-clause-put : goal.returns-clause-put
returns-clause-put c =
    let old = c.self.inside.slab in
    let new = c.insert_reserved-key.new.self in
    let key = c.insert_reserved-key.result in
    let e = c.insert_reserved-key.ensures in
    let y : Slot = record { knote = c.args.knote; timer = c.args.timer } in
    let absent = subst (λ k. HasNoIdent k.slots c.args.knote.ident) (sym c.self.view_is) c.requires.absent in
    let distinct = subst (λ k. AreDistinct k.slots) (sym c.self.view_is) c.requires.distinct in
    let is_put : IsKnotePut old new key y 0 = record {
      list = inserted old new key y e.was_vacant e.updates absent;
      changed = record {
        distinct = distinct_put old new key y e.updates (free_where_absent old.slots key c.args.knote.ident absent) distinct;
        updates = e.updates;
        len = omega (arith, e.len);
        capacity = e.capacity;
      };
    } in
    subst (λ k. IsKnotePut k new key y 0) c.self.view_is is_put
