use Rattle.std.proofs.Common.{◌≡◌, ◌+◌, ◌*◌, length, take}
use Rattle.co_view.specs.Summary.{tally_of}
use Rattle.co_view.proofs.summary.Tally.take_all.Given as goal

abbrev pub invariant-loop-line : goal.invariant-loop-line
invariant-loop-line l = record {
  tally : l.self ≡ tally_of l.timers (take l.line-index l.lines);
  long : length l.self.counts ≡ (l.timers + 1) * 26;
}
