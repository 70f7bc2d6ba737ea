use Rattle.std.proofs.lemmas.Result.{on_ok_weaker}
use Rattle.co_text.proofs.Spacing.{two_pieces}
use Rattle.co_grammar.proofs.print.act.begin_call.Goals as goal

pub returns : goal.returns
returns c = on_ok_weaker c.print_who.result (λ who. two_pieces _ _ _ _ _ c.in_ok-text.ensures who) c.print_who.ensures
