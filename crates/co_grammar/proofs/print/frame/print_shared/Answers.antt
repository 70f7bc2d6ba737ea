use Rattle.std.proofs.lemmas.Result.{on_ok_weaker}
use Rattle.co_text.proofs.Spacing.{two_pieces}
use Rattle.co_grammar.proofs.print.frame.print_shared.Goals as goal

pub returns : goal.returns
returns c =
    let tagged = simp (c.as_slice.ensures) at c.in_ok-tagged.ensures in
    let shared = simp (c.as_slice-2.ensures) at c.text.ensures in
    on_ok_weaker c.text.result (λ text. two_pieces _ _ _ _ _ tagged text) shared
