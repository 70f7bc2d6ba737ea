-- There are as many lines as notes.
use Rattle.std.proofs.Common.{◌++◌, ◌∷◌, [], length, ap, sym, ◌∙◌}
use Rattle.co_report.proofs.LinesPacked.{length-lines}
use Rattle.co_report.proofs.packed_lines.PackedLines.len.Goals as goal

pub returns : goal.returns
returns c = c.len.ensures ∙ (sym (length-lines (c.self.inside.earlier ++ c.self.inside.latest ∷ []) 0 c.self.inside.notes) ∙ ap length c.self.view_is)
