use Rattle.std.proofs.lemmas.Result.{on_ok_weaker}
use Rattle.co_text.proofs.Spacing.{three_pieces}
use Rattle.co_notes.proofs.note.call.print_schedule.Goals as goal

pub returns : goal.returns
returns c =
    let e1 = simp (c.as_slice.ensures, c.raw.ensures.units) at c.in_ok-tagged.ensures in
    let e2 = simp (c.as_slice-2.ensures, c.raw-2.ensures.units) at c.in_ok-tagged-2.ensures in
    on_ok_weaker c.print_target.result (three_pieces _ _ _ _ _ _ _ e1 e2) c.print_target.ensures
