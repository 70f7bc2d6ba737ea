-- Each process has expired, or its callout waits. All entries so far are of this act.
use Rattle.std.proofs.Common.{length}
use Rattle.co_single.specs.Alarms.{waiting_of}
use Rattle.co_single.specs.Seen.{AddsEntries}
use Rattle.co_itimer.specs.Serving.{AreServing}
use Rattle.co_itimer.proofs.serving.serve_all.Given as goal

abbrev pub invariant-loop-fired : goal.invariant-loop-fired
invariant-loop-fired g l = record {
  serving : AreServing l.act l.fn.single l.fn.book l.single l.book;
  entries : AddsEntries l.fn.single l.act l.single;
}

abbrev pub decreases-loop-fired : goal.decreases-loop-fired
decreases-loop-fired g l = length (waiting_of l.single)
