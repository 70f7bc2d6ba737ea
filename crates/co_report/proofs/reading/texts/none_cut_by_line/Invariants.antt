use Rattle.std.proofs.Common.{◌≡◌, ◌+◌, ◌≤◌, length}
use Rattle.co_text.specs.Lines.{lines_of}
use Rattle.co_report.specs.Reading.{none_cut}
use Rattle.co_report.proofs.reading.texts.none_cut_by_line.Given as goal

abbrev pub decreases-loop-ended : goal.decreases-loop-ended
decreases-loop-ended l = length l.rest

abbrev pub invariant-loop-ended : goal.invariant-loop-ended
invariant-loop-ended l = record {
  same : none_cut l.number (lines_of l.rest) ≡ none_cut 1 (lines_of l.fn.text);
  small : l.number + length l.rest ≤ 268435457;
}
