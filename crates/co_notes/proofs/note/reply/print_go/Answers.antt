use Rattle.std.proofs.lemmas.Result.{on_ok_weaker}
use Rattle.co_text.proofs.Spacing.{two_pieces}
use Rattle.co_notes.proofs.note.reply.print_go.Goals as goal

pub returns : goal.returns
returns c =
    let e1 = simp (c.as_slice.ensures) at c.in_ok-tagged.ensures in
    let e2 = simp (c.as_slice-2.ensures) at c.tagged-2.ensures in
    on_ok_weaker c.tagged-2.result (two_pieces _ _ _ _ _ e1) e2
