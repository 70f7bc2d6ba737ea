use Rattle.std.proofs.Common.{◌≡◌, ap, sym, subst, refl, ◌∙◌, arith, Some, None, set, false}
use Rattle.slab.specs.Slab.{Slab, Updates, get, with_value}
use Rattle.co_kq.specs.declared.knote.Slot.{Slot}
use Rattle.co_kq.specs.Kevents.{put_in_order, event_of}
use Rattle.co_kq.specs.Slots.{knotes_in, slot_at, AreDistinct, IsFirstReady, TellsOne}
use Rattle.co_kq.specs.Changes.{told_slot, IsSlotChanged}
use Rattle.co_kq.proofs.InSlots.{taken_out, written, IsFree, free_where_alone, distinct_put}
use Rattle.co_kq.proofs.Listing.{listed_quiet, first_of, with_updates, with_len}
use Rattle.co_kq.proofs.Telling.{tells_first, behind_first, first_at, quieted}
use Rattle.co_kq.proofs.knotes.Knotes.tell_again.Goals as goal

pub invariant_of-self : goal.invariant_of-self
invariant_of-self c =
    let old = c.self.inside.slab in
    let x = c.in-Some.slot.now in
    let y : Slot = record { knote = quieted x.knote; timer = x.timer } in
    let there : get old c.args.key ≡ Some x = sym c.in-Some.ensures.value in
    let distinct = subst (λ k. AreDistinct k.slots) (sym c.self.view_is) c.requires.distinct in
    let first = subst (λ k. IsFirstReady k.slots c.args.key) (sym c.self.view_is) c.requires.first in
    let first_there = first_of old c.self.inside.order c.self.inside.ready c.args.key x c.self.invariant first there in
    listed_quiet old (with_value old c.args.key y) c.self.inside.order c.self.inside.ready c.take_first.new.self c.args.key x y c.self.invariant there (with_updates old c.args.key x y there)
    (distinct c.args.key x there) refl c.take_first.ensures.room (with_len old c.args.key x y there) refl refl
    (c.take_first.ensures.changed c.args.key first_there)

pub returns-clause-tells : goal.returns-clause-tells
returns-clause-tells c =
    let old = c.self.inside.slab in
    let x = c.in-Some.slot.now in
    let y : Slot = record { knote = quieted x.knote; timer = x.timer } in
    let new : Slab Slot = with_value old c.args.key y in
    let there : get old c.args.key ≡ Some x = sym c.in-Some.ensures.value in
    let rest = knotes_in (set old.slots c.args.key None) in
    let distinct = subst (λ k. AreDistinct k.slots) (sym c.self.view_is) c.requires.distinct in
    let alone = distinct c.args.key x there in
    let base : knotes_in old.slots ≡ put_in_order x.knote rest = taken_out old.slots c.args.key x there alone in
    let end : knotes_in new.slots ≡ put_in_order (quieted x.knote) rest = written old new c.args.key x y there refl (with_updates old c.args.key x y there) alone in
    let first : IsFirstReady old.slots c.args.key = first_at old.slots c.args.key x (subst (λ k. IsFirstReady k.slots c.args.key) (sym c.self.view_is) c.requires.first) there in
    let once = c.requires.again x (ap (λ k. slot_at k.slots c.args.key) (sym c.self.view_is) ∙ there) in
    let tells : TellsOne (put_in_order x.knote rest) (event_of x.knote) (put_in_order (quieted x.knote) rest) = tells_first false x.knote rest once first.ready (behind_first old.slots c.args.key first distinct) in
    subst (λ l. TellsOne l (event_of x.knote) (knotes_in new.slots)) (sym base ∙ ap (λ k. knotes_in k.slots) c.self.view_is)
    (subst (λ l. TellsOne (put_in_order x.knote rest) (event_of x.knote) l) (sym end) tells)

pub returns-clause-changed : goal.returns-clause-changed
returns-clause-changed c =
    let old = c.self.inside.slab in
    let x = c.in-Some.slot.now in
    let y : Slot = record { knote = quieted x.knote; timer = x.timer } in
    let there : get old c.args.key ≡ Some x = sym c.in-Some.ensures.value in
    let distinct = subst (λ k. AreDistinct k.slots) (sym c.self.view_is) c.requires.distinct in
    let free : IsFree old.slots c.args.key y.knote.ident = free_where_alone old.slots c.args.key x.knote.ident (distinct c.args.key x there) in
    let new : Slab Slot = with_value old c.args.key y in
    let updates : Updates old new c.args.key (told_slot (Some x)) = with_updates old c.args.key x y there in
    let changed : IsSlotChanged old new c.args.key (told_slot (get old c.args.key)) 1 1 = record {
      distinct = distinct_put old new c.args.key y updates free distinct;
      updates = subst (λ o. Updates old new c.args.key (told_slot o)) (sym there) updates;
      len = omega (arith, with_len old c.args.key x y there);
      capacity = refl;
    } in
    subst (λ k. IsSlotChanged k new c.args.key (told_slot (get k c.args.key)) 1 1) c.self.view_is changed
