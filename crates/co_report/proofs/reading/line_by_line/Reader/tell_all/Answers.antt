-- One line more is told.
use Rattle.std.proofs.Common.{◌++◌}
use Rattle.co_report.proofs.ReadTold.{told-more}
use Rattle.co_report.proofs.reading.line_by_line.Reader.tell_all.Goals as goal

pub loop-line-preserved : goal.loop-line-preserved
loop-line-preserved g c =
    let on = c.in_ok-tell_line.ensures in
    let had = c.loop-line.invariant.has in
    record {
      reading = on.0.reading;
      told = told-more g.L.LineListener.has c.args.listener.now c.loop-line.listener c.tell_line.new.listener c.args.self.now c.loop-line.self c.tell_line.new.self c.loop-line.invariant.told on.1;
      has = (had.0 ++ on.1.lines, on.1.taken had.0 had.1);
    }
