-- The notes of the lines.
use Rattle.std.proofs.Common.{◌++◌, ◌∷◌, [], map, ap, sym, ◌∙◌}
use Rattle.co_report.specs.PackedLines.{note_from_line}
use Rattle.co_report.proofs.LinesPacked.{notes-back}
use Rattle.co_report.proofs.packed_lines.PackedLines.notes.Goals as goal

pub returns : goal.returns
returns c =
    let x = c.self.inside in
    c.ahead.ensures ∙ (sym (notes-back (x.earlier ++ x.latest ∷ []) 0 x.notes) ∙ ap (map note_from_line) c.self.view_is)
