use Rattle.std.proofs.lemmas.Result.{on_ok_weaker}
use Rattle.co_text.proofs.Spacing.{five_pieces}
use Rattle.co_notes.proofs.note.call.print_reset.Goals as goal

pub returns : goal.returns
returns c =
    let e1 = simp (c.as_slice.ensures, c.raw.ensures.units) at c.in_ok-tagged.ensures in
    let e2 = simp (c.as_slice-2.ensures, c.raw-2.ensures.units) at c.in_ok-tagged-2.ensures in
    let e3 = simp (c.as_slice-3.ensures) at c.in_ok-tagged-3.ensures in
    let e4 = simp (c.as_slice-4.ensures) at c.in_ok-tagged-4.ensures in
    on_ok_weaker c.print_target.result (five_pieces _ _ _ _ _ _ _ _ _ _ _ e1 e2 e3 e4) c.print_target.ensures
