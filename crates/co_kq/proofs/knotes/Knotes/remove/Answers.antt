use Rattle.std.proofs.Common.{◌≡◌, Some, None, sym, ap, subst, ◌∙◌, arith}
use Rattle.co_kq.specs.Kevents.{knote_of, without}
use Rattle.co_kq.specs.Slots.{knotes_in, AreDistinct}
use Rattle.co_kq.specs.Changes.{IsSlotChanged}
use Rattle.co_kq.proofs.InSlots.{found, removed, distinct_removed}
use Rattle.co_kq.proofs.Listing.{listed_gone}
use Rattle.co_kq.proofs.knotes.Knotes.remove.Goals as goal

pub invariant_of-self : goal.invariant_of-self
invariant_of-self c =
    let e = c.remove-slot.ensures in
    let x = c.remove-slot.result in
    let distinct = subst (λ k. AreDistinct k.slots) (sym c.self.view_is) c.requires.distinct in
    listed_gone c.self.inside.slab c.remove-slot.new.self c.self.inside.order c.self.inside.ready c.remove.new.self c.remove-2.new.self c.args.key x c.self.invariant e.value e.updates
    (distinct c.args.key x e.value) c.remove.ensures.changed c.remove-2.ensures.changed c.remove.ensures.room c.remove-2.ensures.room e.len e.capacity

pub returns-clause-found : goal.returns-clause-found
returns-clause-found c =
    let x = c.remove-slot.result in
    let at = c.remove-slot.ensures.value in
    let distinct = subst (λ k. AreDistinct k.slots) (sym c.self.view_is) c.requires.distinct in
    subst (λ k. knote_of x.knote.ident (knotes_in k.slots) ≡ Some x.knote) c.self.view_is (found c.self.inside.slab.slots c.args.key x at (distinct c.args.key x at))

pub returns-clause-list : goal.returns-clause-list
returns-clause-list c =
    let x = c.remove-slot.result in
    let at = c.remove-slot.ensures.value in
    let distinct = subst (λ k. AreDistinct k.slots) (sym c.self.view_is) c.requires.distinct in
    ap knotes_in c.remove-slot.ensures.slots
    ∙ (removed c.self.inside.slab.slots c.args.key x at (distinct c.args.key x at)
    ∙ ap (λ k. without x.knote.ident (knotes_in k.slots)) c.self.view_is)

pub returns-clause-changed : goal.returns-clause-changed
returns-clause-changed c =
    let old = c.self.inside.slab in
    let new = c.remove-slot.new.self in
    let e = c.remove-slot.ensures in
    let distinct = subst (λ k. AreDistinct k.slots) (sym c.self.view_is) c.requires.distinct in
    let changed : IsSlotChanged old new c.args.key None 1 0 = record {
      distinct = distinct_removed old new c.args.key e.updates distinct;
      updates = e.updates;
      len = omega (arith, e.len);
      capacity = e.capacity;
    } in
    subst (λ k. IsSlotChanged k new c.args.key None 1 0) c.self.view_is changed
