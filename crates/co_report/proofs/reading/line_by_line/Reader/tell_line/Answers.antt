-- The line is read, and the note that it shows is told, if it shows one.
use Rattle.std.proofs.Common.{ap, ◌∙◌}
use Rattle.co_report.specs.Reading.{line_after}
use Rattle.co_report.specs.ReadingViews.{so_far}
use Rattle.co_report.proofs.ReadTold.{line-told}
use Rattle.co_report.proofs.reading.line_by_line.Reader.tell_line.Goals as goal

pub returns-in-Ok : goal.returns-in-Ok
returns-in-Ok g c =
    let x = c.args.self.now in
    let read = c.in-Ok.ensures.value in
    line-told g.L.LineListener.has c.args.listener.now c.tell_note.new.listener x c.tell_note.new.progress c.args.after c.requires.next.0 read.0 (record {
      reading = c.requires.reading;
      next = c.requires.next.2;
      shorter = c.requires.shorter;
      value = ap (λ bytes. line_after x.setting.script.now x.number (so_far x.setting x.progress) bytes) c.requires.next.1 ∙ read.1;
      ready = c.in-Ok.ensures.spelled;
      none = c.in-Ok.ensures.none;
    }) read.2
