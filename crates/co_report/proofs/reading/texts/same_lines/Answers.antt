-- The text is the wanted one.
use Rattle.std.proofs.Common.{sym, ◌∙◌}
use Rattle.std.proofs.lemmas.Slice.Eq.{bytes_eq-Decides}
use Rattle.co_report.proofs.LinesSame.{texts_same}
use Rattle.co_report.proofs.reading.texts.same_lines.Goals as goal

pub returns-then-eq : goal.returns-then-eq
returns-then-eq c = texts_same c.args.text.now c.args.wanted.now ((bytes_eq-Decides c.args.text.now c.args.wanted.now).0 (sym c.eq.ensures ∙ c.if-eq.true))
