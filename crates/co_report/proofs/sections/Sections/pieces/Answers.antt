-- The sections, in the frame of the report.
use Rattle.std.proofs.Common.{◌≡◌, ◌∷◌, [], ◌++◌, sym}
use Rattle.std.specs.Prelude.{codes}
use Rattle.std.specs.List.{concat}
use Rattle.std.proofs.lemmas.Result.{IfOk-weaker}
use Rattle.co_text.specs.Lines.{line_text}
use Rattle.co_print.proofs.Framed.{pieces-framed}
use Rattle.co_report.proofs.ToldPages.{pieces-told}
use Rattle.co_report.proofs.sections.Sections.pieces.Goals as goal

pub returns : goal.returns
returns c =
    IfOk-weaker c.in_frame.result (λ q. concat q ≡ c.in_ok-head.head ++ concat c.append_all.new.pieces ++ line_text (codes "end" ∷ [])) _
    (λ q is made told order.
    pieces-told c.args.self (record { script = c.self.inside.script.now; pages = c.self.inside.pages.items; counts = c.self.inside.counts.items }) made (sym c.self.view_is) told order
    _ c.append_all.new.pieces q c.new-parts.ensures c.in_ok-append_all.ensures (pieces-framed c.self.inside.script.now c.in_ok-head.head q c.append_all.new.pieces c.in_ok-head.ensures is))
    c.in_frame.ensures
