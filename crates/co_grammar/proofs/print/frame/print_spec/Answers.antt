use Rattle.co_text.proofs.Spacing.{both_more}
use Rattle.co_grammar.proofs.print.frame.print_spec.Goals as goal

pub returns : goal.returns
returns c = both_more _ _ _ _ _ c.in_ok-print_use.ensures c.in_ok-print_flags.ensures
