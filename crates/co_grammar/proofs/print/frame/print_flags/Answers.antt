use Rattle.std.proofs.lemmas.Result.{on_ok_weaker}
use Rattle.co_text.proofs.Spacing.{both_more}
use Rattle.co_grammar.proofs.print.frame.print_flags.Goals as goal

pub returns : goal.returns
returns c = on_ok_weaker c.print_return.result (λ returned. both_more _ _ _ _ _ c.in_ok-print_direct.ensures returned) c.print_return.ensures
