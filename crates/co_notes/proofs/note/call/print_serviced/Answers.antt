use Rattle.std.proofs.Common.{◌++◌, ap, decimal, ◌∙◌, append_assoc}
use Rattle.std.proofs.lemmas.Result.{on_ok_weaker}
use Rattle.co_text.proofs.Spacing.{two_pieces}
use Rattle.co_notes.proofs.note.call.print_serviced.Goals as goal

pub returns : goal.returns
returns c =
    let e2 = simp (c.as_slice.ensures) at c.tagged-2.ensures in
    on_ok_weaker c.tagged-2.result (λ e. two_pieces c.args.page.now _ _ (c.args.tag.now ++ decimal c.args.n) _ c.in_ok-tagged.ensures e ∙ ap (λ t. c.args.page.now ++ t) (append_assoc c.args.tag.now (decimal c.args.n) _)) e2
