use Rattle.std.proofs.Common.{[], ◌∷◌, codes, w32}
use mir.Val.{SFits}
use Rattle.std.specs.Fmt.{signed_decimal}
use Rattle.std.proofs.lemmas.Int.{to_z-of_z}
use Rattle.std.proofs.lemmas.Result.{on_ok_weaker}
use Rattle.co_text.specs.Written.{func_word, argument_word}
use Rattle.co_text.proofs.Spacing.{both_more, one_more}
use Rattle.co_grammar.specs.Spelling.{who_word, cpu_words}
use Rattle.co_grammar.proofs.print.act.print_ticks.Goals as goal

pub returns : goal.returns
returns c =
    let fits : SFits w32 c.args.ticks = c.ranges.ticks in
    let begun = simp (c.as_slice.ensures) at c.in_ok-begin_call.ensures in
    let count = simp to_z-of_z at c.in_ok-print_count.ensures in
    let handled = both_more _ _ _ (signed_decimal c.args.ticks ∷ []) (func_word c.args.func ∷ argument_word c.args.arg ∷ []) count c.in_ok-print_handler.ensures in
    let words = both_more _ _ _ (signed_decimal c.args.ticks ∷ func_word c.args.func ∷ argument_word c.args.arg ∷ []) (cpu_words c.args.cpu) handled c.in_ok-print_cpu.ensures in
    on_ok_weaker c.end.result (λ end. one_more _ _ _ _ (codes "ticks") (who_word c.args.who ∷ []) (signed_decimal c.args.ticks ∷ func_word c.args.func ∷ argument_word c.args.arg ∷ cpu_words c.args.cpu) begun words end) c.end.ensures
