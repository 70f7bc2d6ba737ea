use Rattle.std.proofs.Common.{subst}
use Rattle.co_wheel.specs.Kept.{KeepsSlots}
use Rattle.co_wheel.proofs.Kept.{keeps-slots}
use Rattle.co_wheel.proofs.records.Records.kept.Goals as goal

pub returns : goal.returns
returns c = let v = c.self.inside in subst KeepsSlots c.self.view_is (keeps-slots v.slot v.interrupt v.records.items c.self.invariant)
