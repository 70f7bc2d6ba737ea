use Rattle.std.proofs.Common.{◌++◌, ap, decimal, ◌∙◌, append_assoc}
use Rattle.std.proofs.lemmas.Result.{on_ok_weaker}
use Rattle.co_text.proofs.Spacing.{three_pieces}
use Rattle.co_notes.proofs.note.queue.print_held.Goals as goal

pub returns : goal.returns
returns c =
    let e2 = simp (c.as_slice.ensures) at c.in_ok-tagged-2.ensures in
    let e3 = simp (c.as_slice-2.ensures, c.raw.ensures.units) at c.tagged-3.ensures in
    on_ok_weaker c.tagged-3.result (λ e. three_pieces c.args.page.now _ _ _ (c.args.tag.now ++ decimal c.args.i) _ _ c.in_ok-tagged.ensures e2 e ∙ ap (λ t. c.args.page.now ++ t) (append_assoc c.args.tag.now (decimal c.args.i) _)) e3
