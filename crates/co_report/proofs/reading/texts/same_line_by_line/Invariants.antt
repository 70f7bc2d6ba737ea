use Rattle.std.proofs.Common.{◌≡◌, ◌+◌, ◌≤◌, length}
use Rattle.co_text.specs.Lines.{lines_of}
use Rattle.co_report.specs.Reading.{same_lines}
use Rattle.co_report.proofs.reading.texts.same_line_by_line.Given as goal

abbrev pub decreases-loop-line : goal.decreases-loop-line
decreases-loop-line l = length l.rest

abbrev pub invariant-loop-line : goal.invariant-loop-line
invariant-loop-line l = record {
  same : same_lines l.number (lines_of l.rest) (lines_of l.left) ≡ same_lines 2 (lines_of l.fn.text) (lines_of l.fn.wanted);
  small : l.number + length l.rest ≤ 268435458;
}
