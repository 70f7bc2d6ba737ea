use Rattle.std.proofs.Common.{[], ◌∷◌, codes}
use Rattle.std.proofs.lemmas.Result.{on_ok_weaker}
use Rattle.co_text.specs.Written.{func_word}
use Rattle.co_text.proofs.Spacing.{one_more}
use Rattle.co_grammar.specs.Spelling.{who_word}
use Rattle.co_grammar.proofs.print.act.print_async_drain.Goals as goal

pub returns : goal.returns
returns c =
    let begun = simp (c.as_slice.ensures) at c.in_ok-begin_call.ensures in
    let func = simp (c.as_slice-2.ensures) at c.in_ok-print_lone.ensures in
    on_ok_weaker c.end.result (λ end. one_more _ _ _ _ (codes "adrain") (who_word c.args.who ∷ []) (func_word c.args.func ∷ []) begun func end) c.end.ensures
