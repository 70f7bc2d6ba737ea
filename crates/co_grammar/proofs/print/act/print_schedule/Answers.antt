use Rattle.std.proofs.Common.{[], ◌∷◌, ◌++◌, codes}
use Rattle.std.proofs.lemmas.Result.{on_ok_weaker}
use Rattle.co_text.proofs.Spacing.{both_more, one_more}
use Rattle.co_grammar.specs.Spelling.{who_word, cpu_words, moment_word, precision_words}
use Rattle.co_grammar.proofs.print.act.print_schedule.Goals as goal

pub returns : goal.returns
returns c =
    let begun = simp (c.as_slice.ensures) at c.in_ok-begin_call.ensures in
    let words = both_more _ _ _ (moment_word c.args.when ∷ []) (cpu_words c.args.cpu ++ precision_words c.args.prec) c.in_ok-print_moment.ensures c.in_ok-print_options.ensures in
    on_ok_weaker c.end.result (λ end. one_more _ _ _ _ (codes "schedule") (who_word c.args.who ∷ []) (moment_word c.args.when ∷ (cpu_words c.args.cpu ++ precision_words c.args.prec)) begun words end) c.end.ensures
