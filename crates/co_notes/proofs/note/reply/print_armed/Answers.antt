use Rattle.std.proofs.Common.{w32}
use mir.Val.{SFits}
use Rattle.std.proofs.lemmas.Int.{to_z-of_z}
use Rattle.std.proofs.lemmas.Result.{on_ok_weaker}
use Rattle.co_text.proofs.Spacing.{five_pieces}
use Rattle.co_notes.proofs.note.reply.print_armed.Goals as goal

pub returns : goal.returns
returns c =
    let fits : SFits w32 c.args.code = c.ranges.code in
    let e1 = simp (c.as_slice.ensures) at c.in_ok-text.ensures in
    let e3 = simp (c.as_slice-2.ensures) at c.in_ok-tagged.ensures in
    let e4 = simp (c.as_slice-3.ensures) at c.in_ok-tagged-2.ensures in
    let code = simp to_z-of_z at c.in_ok-signed.ensures in
    on_ok_weaker c.print_off.result (five_pieces _ _ _ _ _ _ _ _ _ _ _ e1 code e3 e4) c.print_off.ensures
