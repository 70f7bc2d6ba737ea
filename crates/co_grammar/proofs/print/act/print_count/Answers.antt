use Rattle.std.proofs.Common.{w32}
use mir.Val.{SFits}
use Rattle.std.proofs.lemmas.Int.{to_z-of_z}
use Rattle.std.proofs.lemmas.Result.{on_ok_weaker}
use Rattle.co_text.proofs.Spacing.{two_pieces}
use Rattle.co_grammar.proofs.print.act.print_count.Goals as goal

pub returns : goal.returns
returns c =
    let fits : SFits w32 c.args.ticks = c.ranges.ticks in
    let space = simp (c.as_slice.ensures) at c.in_ok-text.ensures in
    let count = simp to_z-of_z at c.signed.ensures in
    on_ok_weaker c.signed.result (λ signed. two_pieces _ _ _ _ _ space signed) count
