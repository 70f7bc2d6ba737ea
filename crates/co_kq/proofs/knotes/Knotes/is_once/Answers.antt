-- The slab's slot is the one that stands there.
use Rattle.std.proofs.Common.{ap, sym, ◌∙◌}
use Rattle.slab.specs.Slab.{get}
use Rattle.co_kq.specs.declared.knote.Slot.{Slot}
use Rattle.co_kq.proofs.InSlots.{some_is}
use Rattle.co_kq.proofs.knotes.Knotes.is_once.Goals as goal

pub returns : goal.returns
returns c s there =
    ap (λ (slot : Slot). slot.knote.oneshot) (some_is s c.in-Some.slot.now (sym there ∙ (sym (ap (λ k. get k c.args.key) c.self.view_is) ∙ sym c.in-Some.ensures)))
