use Rattle.co_timers.specs.Drains.{Waited}
use Rattle.co_timers.specs.Handles.{IsHandle}
use Rattle.co_timers.proofs.timers.Timers.drain_on.Given as goal

abbrev pub invariant-loop : goal.invariant-loop
invariant-loop g l = record {
  handle : IsHandle g.N.Name.name l.self.params l.passes;
  waits : Waited l.fn.passes l.act l.i l.passes l.took;
}
