use Rattle.std.proofs.Common.{◌≡◌, length}
use Rattle.co_single.specs.Alarms.{waiting_of}
use Rattle.co_single.specs.Seen.{AddsEntries}
use Rattle.co_kq.specs.Ticks.{IsTicking}
use Rattle.co_kq.proofs.ticks.serve_all.Given as goal

-- so far the tick has come
abbrev pub invariant-loop-now : goal.invariant-loop-now
invariant-loop-now g l = record {
  serving : IsTicking l.now l.act l.fn.knotes.slots l.uses l.fn.single l.knotes.slots l.single;
  entries : AddsEntries l.fn.single l.act l.single;
  capacity : l.knotes.capacity ≡ l.fn.knotes.capacity;
}

abbrev pub decreases-loop-now : goal.decreases-loop-now
decreases-loop-now g l = length (waiting_of l.single)
