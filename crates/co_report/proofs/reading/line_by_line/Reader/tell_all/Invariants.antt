use Rattle.std.proofs.Common.{List, length}
use Rattle.co_report.specs.declared.line.Line.{Line}
use Rattle.co_report.specs.LineByLine.{AreTold, IsReading}
use Rattle.co_report.proofs.reading.line_by_line.Reader.tell_all.Given as goal

abbrev pub decreases-loop-line : goal.decreases-loop-line
decreases-loop-line g l = length l.self.rest.now

abbrev pub invariant-loop-line : goal.invariant-loop-line
invariant-loop-line g l = record {
  reading : IsReading l.self;
  told : AreTold g.L.LineListener.has l.fn.listener l.listener l.fn.self l.self;
  has : (lines : List Line) × g.L.LineListener.has l.listener lines;
}
