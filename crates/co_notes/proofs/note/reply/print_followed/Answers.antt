use Rattle.std.proofs.lemmas.Result.{on_ok_weaker}
use Rattle.co_text.proofs.Spacing.{six_pieces}
use Rattle.co_notes.proofs.note.reply.print_followed.Goals as goal

pub returns : goal.returns
returns c =
    let e1 = simp (c.as_slice.ensures) at c.in_ok-text.ensures in
    let e3 = simp (c.as_slice-2.ensures) at c.in_ok-tagged.ensures in
    let e4 = simp (c.as_slice-3.ensures) at c.in_ok-tagged-2.ensures in
    let e5 = simp (c.as_slice-4.ensures, c.raw.ensures.units) at c.in_ok-tagged-3.ensures in
    on_ok_weaker c.print_woke.result (six_pieces _ _ _ _ _ _ _ _ _ _ _ _ _ e1 c.in_ok-print_drain.ensures e3 e4 e5) c.print_woke.ensures
