use Rattle.std.proofs.Common.{◌≡◌, ℕ, ◌<◌, ◌==◌, ◌&&◌, false, Some}
use Rattle.co_sleepq.specs.declared.sleep.Sleep.{Sleep}
use Rattle.co_sleepq.specs.Slots.{slot_at}
use Rattle.co_sleepq.proofs.book.timed_in.Given as goal

-- none so far is it
abbrev pub invariant-loop-slot : goal.invariant-loop-slot
invariant-loop-slot l = (i : ℕ) (x : Sleep) → i < l.slot-index → slot_at l.slots i ≡ Some x → (x.s == l.s && x.timed) ≡ false
