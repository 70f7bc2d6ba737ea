use Rattle.std.proofs.Common.{◌≡◌, ◌+◌, ◌-◌, ◌≤◌, ◌++◌, length, take}
use Rattle.std.specs.Option.{option_map}
use Rattle.co_text.specs.Lines.{lines_of}
use Rattle.co_report.specs.Reading.{halves}
use Rattle.co_report.proofs.LinesWhole.{behind_lines}
use Rattle.co_report.proofs.reading.texts.split_at_histories.Given as goal

abbrev pub decreases-loop-line : goal.decreases-loop-line
decreases-loop-line l = length l.rest

abbrev pub invariant-loop-line : goal.invariant-loop-line
invariant-loop-line l = record {
  whole : l.text ≡ take (length l.text - length l.rest) l.text ++ l.rest;
  same : option_map (behind_lines (take (length l.text - length l.rest) l.text) l.count) (halves (lines_of l.rest)) ≡ halves (lines_of l.text);
  small : l.count + length l.rest ≤ length l.text;
}
