-- The line shows a note, or none.
use Rattle.std.proofs.Common.{Ok, refl, ap, ◌∙◌}
use Rattle.co_report.specs.Reading.{line_after}
use Rattle.co_report.specs.ReadingViews.{so_far, with_line}
use Rattle.co_report.proofs.LineByLine.{passed-note, passed-quiet}
use Rattle.co_report.proofs.reading.line_by_line.Reader.read_line.Goals as goal

pub returns-in-Some : goal.returns-in-Some
returns-in-Some c =
    let x = c.args.self.now in
    passed-note x c.take_note.new.progress c.args.after c.requires.next.0 _ c.in-Some.line refl (record {
      reading = c.requires.reading;
      next = c.requires.next.2;
      shorter = c.requires.shorter;
      value = ap (λ bytes. line_after x.setting.script.now x.number (so_far x.setting x.progress) bytes) c.requires.next.1
          ∙ (c.in-Ok.ensures.value ∙ ap (λ found. Ok (with_line (so_far x.setting c.take_note.new.progress) found)) c.in-Some.is);
      ready = c.in-Ok.ensures.spelled;
      none = c.in-Ok.ensures.none;
    })

pub returns-in-None : goal.returns-in-None
returns-in-None c =
    let x = c.args.self.now in
    passed-quiet x c.take_note.new.progress c.args.after c.requires.next.0 (record {
      reading = c.requires.reading;
      next = c.requires.next.2;
      shorter = c.requires.shorter;
      value = ap (λ bytes. line_after x.setting.script.now x.number (so_far x.setting x.progress) bytes) c.requires.next.1
          ∙ (c.in-Ok.ensures.value ∙ ap (λ found. Ok (with_line (so_far x.setting c.take_note.new.progress) found)) c.in-None.is);
      ready = c.in-Ok.ensures.spelled;
      none = c.in-Ok.ensures.none;
    })
