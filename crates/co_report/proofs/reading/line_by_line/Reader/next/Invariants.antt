use Rattle.std.proofs.Common.{◌≡◌, ◌≤◌, length}
use Rattle.co_report.specs.LineByLine.{standing, IsReading}
use Rattle.co_report.proofs.reading.line_by_line.Reader.next.Given as goal

abbrev pub decreases-loop-line : goal.decreases-loop-line
decreases-loop-line l = length l.self.rest.now

-- lines that show no note change nothing of what is ahead
abbrev pub invariant-loop-line : goal.invariant-loop-line
invariant-loop-line l = record {
  reading : IsReading l.self;
  script : (standing l.self).script ≡ (standing l.fn.self).script;
  text : (standing l.self).text ≡ (standing l.fn.self).text;
  bytes : (standing l.self).bytes ≤ (standing l.fn.self).bytes;
  ahead : (standing l.self).ahead ≡ (standing l.fn.self).ahead;
}
