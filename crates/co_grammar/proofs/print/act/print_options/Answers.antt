use Rattle.co_text.proofs.Spacing.{both_more}
use Rattle.co_grammar.proofs.print.act.print_options.Goals as goal

pub returns : goal.returns
returns c = both_more _ _ _ _ _ c.in_ok-print_cpu.ensures c.in_ok-print_precision.ensures
