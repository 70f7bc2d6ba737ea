use Rattle.std.proofs.Common.{[], ◌∷◌, codes, decimal}
use Rattle.std.proofs.lemmas.Result.{on_ok_weaker}
use Rattle.co_text.proofs.Spacing.{one_line}
use Rattle.co_grammar.specs.Spelling.{spec_words}
use Rattle.co_grammar.proofs.print.frame.print_timer.Goals as goal

pub returns : goal.returns
returns c =
    let begun = simp (c.as_slice.ensures) at c.in_ok-print_lone.ensures in
    on_ok_weaker c.end.result (λ end. one_line _ _ _ _ (codes "timer") (decimal c.args.number ∷ []) (spec_words c.args.spec.now) begun c.in_ok-print_spec.ensures end) c.end.ensures
