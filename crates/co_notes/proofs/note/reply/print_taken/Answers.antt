use Rattle.std.proofs.Common.{w32}
use mir.Val.{SFits}
use Rattle.std.proofs.lemmas.Int.{to_z-of_z}
use Rattle.std.proofs.lemmas.Result.{on_ok_weaker}
use Rattle.co_text.proofs.Spacing.{three_pieces}
use Rattle.co_notes.proofs.note.reply.print_taken.Goals as goal

pub returns : goal.returns
returns c =
    let fits : SFits w32 c.args.code = c.ranges.code in
    let code = simp to_z-of_z at c.in_ok-signed.ensures in
    on_ok_weaker c.print_off.result (three_pieces _ _ _ _ _ _ _ c.in_ok-text.ensures code) c.print_off.ensures
