-- A Scan has been seen for each tick so far.
use Rattle.std.proofs.Common.{◌≡◌, ℕ, ◌+◌, ◌≤◌, Bool}
use Rattle.co_program.specs.Follows.{scan_count}
use Rattle.co_desk.specs.Services.{IsFree}
use Rattle.co_desk.specs.Views.{AreOf, journal_seen}
use Rattle.co_run.proofs.refused.scan_all.Given as goal

abbrev pub invariant-loop-tick : goal.invariant-loop-tick
invariant-loop-tick g l = record {
  of : AreOf g.N.Name.name l.service l.passes;
  actor : l.passes.actor ≡ l.fn.passes.actor;
  scans : scan_count (journal_seen l.fn.passes l.cpu) + l.tick-index ≤ scan_count (journal_seen l.passes l.cpu);
  free : (direct : Bool) (x : ℕ) → IsFree direct l.fn.passes x → IsFree direct l.passes x;
}
