use Rattle.std.proofs.Common.{[], ◌++◌}
use Rattle.std.proofs.lemmas.Result.{on_ok_weaker}
use Rattle.co_grammar.specs.Spelling.{who_word}
use Rattle.co_grammar.proofs.Spacing.{ended}
use Rattle.co_grammar.proofs.print.act.print_call.Goals as goal

pub returns : goal.returns
returns c = on_ok_weaker c.end.result (λ end. ended c.args.page.now c.begin_call.new.page c.end.new.self c.args.verb.now (who_word c.args.who ++ []) c.in_ok-begin_call.ensures end) c.end.ensures
