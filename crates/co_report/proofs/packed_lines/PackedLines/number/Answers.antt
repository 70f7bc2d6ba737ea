-- The number of a line, by its stretch.
use Rattle.std.proofs.Common.{◌++◌, ◌∷◌, [], ap, sym, ◌∙◌, arith}
use Rattle.std.specs.Prelude.{slice_get}
use Rattle.co_report.specs.declared.packed_lines.Stretch.{Stretch}
use Rattle.co_report.specs.PackedLines.{no_stretch, line_in, stretch_at}
use Rattle.co_report.proofs.LinesPacked.{number-here, stretch-before, stretch-last}
use Rattle.co_report.proofs.packed_lines.PackedLines.number.Goals as goal

pub returns-then-self-at : goal.returns-then-self-at
returns-then-self-at c line there =
    let x = c.self.inside in
    c.number_in.ensures
    ∙ (ap (λ (s : Stretch). line_in s c.args.at) (sym (stretch-last x.earlier x.latest c.args.at (omega (arith, c.if-self-at.true))))
    ∙ number-here (x.earlier ++ x.latest ∷ []) 0 c.args.at c.args.at x.notes line (omega arith) (ap (λ ls. slice_get ls c.args.at) c.self.view_is ∙ there))

pub returns : goal.returns
returns c line there =
    let x = c.self.inside in
    c.number_in-2.ensures
    ∙ (ap (λ (s : Stretch). line_in s c.args.at) (c.stretch_at.ensures ∙ ap (λ ss. stretch_at no_stretch ss c.args.at) c.as_slice.ensures ∙ sym (stretch-before x.earlier x.latest c.args.at (omega (arith, c.if-self-at.false))))
    ∙ number-here (x.earlier ++ x.latest ∷ []) 0 c.args.at c.args.at x.notes line (omega arith) (ap (λ ls. slice_get ls c.args.at) c.self.view_is ∙ there))
