use Rattle.std.proofs.Common.{◌≡◌}
use Rattle.co_wheel.proofs.Coming.{partly}
use Rattle.co_wheel.proofs.wheel.Wheel.put_all.Given as goal

abbrev pub invariant-loop-i : goal.invariant-loop-i
invariant-loop-i g l = l.self ≡ record l.initial.self { callouts = record l.initial.self.callouts { here = partly l.specs l.i } }
