use Rattle.std.proofs.Common.{◌≡◌, ◌<◌, refl, sym, ap, arith, Some}
use Rattle.slab.specs.Slab.{get, with_value}
use Rattle.co_kq.specs.declared.knote.Slot.{Slot}
use Rattle.co_kq.specs.declared.knote.Knote.{Knote}
use Rattle.co_kq.proofs.Listing.{idle_absent, idle_room, listed_distinct, listed_ready, with_updates, with_len}
use Rattle.co_kq.proofs.knotes.Knotes.expire_at.Goals as goal

pub mark-requires-clause-absent : goal.mark-requires-clause-absent
mark-requires-clause-absent c quiet =
    let x = c.in_ok-slot.slot.now in
    let there : get c.self.inside.slab c.args.key ≡ Some x = sym c.in_ok-slot.ensures.value in
    let distinct = listed_distinct c.self.inside.slab c.self.inside.order c.self.inside.ready c.self.invariant in
    idle_absent c.self.inside.slab c.self.inside.order c.self.inside.ready c.args.key x c.self.invariant there (distinct c.args.key x there) quiet

pub mark-requires-clause-room : goal.mark-requires-clause-room
mark-requires-clause-room c quiet = idle_room c.self.inside.slab c.self.inside.order c.self.inside.ready c.args.key c.in_ok-slot.slot.now c.self.invariant (sym c.in_ok-slot.ensures.value) quiet

pub invariant_of-self-2 : goal.invariant_of-self-2
invariant_of-self-2 c =
    let old = c.self.inside.slab in
    let x = c.in_ok-slot.slot.now in
    let y : Slot = record { knote = c.expire.new.knote; timer = x.timer } in
    let there : get old c.args.key ≡ Some x = sym c.in_ok-slot.ensures.value in
    let distinct = listed_distinct c.self.inside.slab c.self.inside.order c.self.inside.ready c.self.invariant in
    let count = ap (λ (k : Knote). k.count) c.expire.ensures in
    let more : 0 < y.knote.count = omega (arith, count) in
    listed_ready old (with_value old c.args.key y) c.self.inside.order c.self.inside.ready c.mark.new.ready c.args.key x y c.self.invariant there (with_updates old c.args.key x y there)
    (distinct c.args.key x there) (ap (λ (k : Knote). k.ident) c.expire.ensures) c.mark.ensures.room (with_len old c.args.key x y there) refl more c.mark.ensures.changed
