-- Nothing is read yet.
use Rattle.std.proofs.Common.{refl, ◌∙◌}
use Rattle.co_report.proofs.LineByLine.{reading-first}
use Rattle.co_report.proofs.reading.line_by_line.OpenReport.reader.Goals as goal

pub returns-clause-reading : goal.returns-clause-reading
returns-clause-reading c =
    reading-first _ c.self.invariant.small (record { names = c.self.invariant.named; few = c.self.invariant.actors; places = c.as_slice.ensures ∙ c.self.invariant.places })
    c.in_ok-progress.ensures.spelled c.in_ok-progress.ensures.value refl c.self.invariant.few
