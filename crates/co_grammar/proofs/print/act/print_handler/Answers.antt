use Rattle.std.proofs.lemmas.Result.{on_ok_weaker}
use Rattle.co_text.proofs.Spacing.{two_pieces}
use Rattle.co_grammar.proofs.print.act.print_handler.Goals as goal

pub returns : goal.returns
returns c =
    let func = simp (c.as_slice.ensures) at c.in_ok-tagged.ensures in
    let arg = simp (c.as_slice-2.ensures) at c.tagged-2.ensures in
    on_ok_weaker c.tagged-2.result (λ behind. two_pieces _ _ _ _ _ func behind) arg
