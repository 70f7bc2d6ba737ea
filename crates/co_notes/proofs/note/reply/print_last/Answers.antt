use Rattle.std.proofs.lemmas.Result.{on_ok_weaker}
use Rattle.co_text.proofs.Spacing.{four_pieces}
use Rattle.co_notes.proofs.note.reply.print_last.Goals as goal

pub returns : goal.returns
returns c =
    let e1 = simp (c.as_slice.ensures) at c.in_ok-text.ensures in
    let e3 = simp (c.as_slice-2.ensures) at c.in_ok-text-2.ensures in
    on_ok_weaker c.print_woke.result (four_pieces _ _ _ _ _ _ _ _ _ e1 c.in_ok-print_drain.ensures e3) c.print_woke.ensures
