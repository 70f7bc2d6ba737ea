use Rattle.std.proofs.Common.{w32}
use mir.Val.{SFits}
use Rattle.std.proofs.lemmas.Int.{to_z-of_z}
use Rattle.std.proofs.lemmas.Result.{on_ok_weaker}
use Rattle.co_text.proofs.Spacing.{two_pieces}
use Rattle.co_notes.proofs.note.reply.print_not_armed.Goals as goal

pub returns : goal.returns
returns c =
    let fits : SFits w32 c.args.code = c.ranges.code in
    let e1 = simp (c.as_slice.ensures) at c.in_ok-text.ensures in
    let code = simp to_z-of_z at c.signed.ensures in
    on_ok_weaker c.signed.result (two_pieces _ _ _ _ _ e1) code
