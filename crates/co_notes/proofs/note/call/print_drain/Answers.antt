use Rattle.std.proofs.lemmas.Result.{on_ok_weaker}
use Rattle.co_text.proofs.Spacing.{two_pieces}
use Rattle.co_notes.proofs.note.call.print_drain.Goals as goal

pub returns : goal.returns
returns c =
    let e1 = simp (c.as_slice.ensures) at c.in_ok-text.ensures in
    on_ok_weaker c.print_truth.result (two_pieces _ _ _ _ _ e1) c.print_truth.ensures
