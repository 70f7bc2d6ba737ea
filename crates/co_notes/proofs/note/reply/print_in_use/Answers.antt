use Rattle.std.proofs.lemmas.Result.{on_ok_weaker}
use Rattle.co_text.proofs.Spacing.{three_pieces}
use Rattle.co_notes.proofs.note.reply.print_in_use.Goals as goal

pub returns : goal.returns
returns c =
    let e1 = simp (c.as_slice.ensures) at c.in_ok-text.ensures in
    on_ok_weaker c.print_truth-2.result (three_pieces _ _ _ _ _ _ _ e1 c.in_ok-print_truth.ensures) c.print_truth-2.ensures
