-- The note of a line.
use Rattle.std.proofs.Common.{◌++◌, ◌∷◌, [], length, ap, sym, ◌∙◌, arith}
use Rattle.std.specs.Prelude.{slice_get}
use Rattle.co_report.proofs.LinesPacked.{length-lines, line-here}
use Rattle.co_report.proofs.packed_lines.PackedLines.note.Goals as goal

pub note-requires : goal.note-requires
note-requires c =
    let x = c.self.inside in
    omega (arith, c.requires, length-lines (x.earlier ++ x.latest ∷ []) 0 x.notes, ap length c.self.view_is)

pub returns : goal.returns
returns c =
    let x = c.self.inside in
    (_, ap (λ ls. slice_get ls c.args.at) (sym c.self.view_is) ∙ line-here (x.earlier ++ x.latest ∷ []) 0 c.args.at c.args.at x.notes c.note.result (omega arith) c.note.ensures)
