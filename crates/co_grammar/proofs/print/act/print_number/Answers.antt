use Rattle.std.proofs.Common.{[], ◌++◌, decimal}
use Rattle.std.proofs.lemmas.Result.{on_ok_weaker}
use Rattle.co_grammar.proofs.Spacing.{ended}
use Rattle.co_grammar.proofs.print.act.print_number.Goals as goal

pub returns : goal.returns
returns c = on_ok_weaker c.end.result (λ end. ended c.args.page.now c.print_lone.new.page c.end.new.self c.args.verb.now (decimal c.args.number ++ []) c.in_ok-print_lone.ensures end) c.end.ensures
