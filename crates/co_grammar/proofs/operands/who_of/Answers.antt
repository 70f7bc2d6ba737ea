use Rattle.std.proofs.Common.{rules}
use Rattle.co_grammar.proofs.AheadOperands.{who-me}
use Rattle.co_grammar.proofs.operands.who_of.Goals as goal

pub returns-then-is_word : goal.returns-then-is_word
returns-then-is_word c = who-me c.args.serviced c.args.word.now (search rules) (search rules)
