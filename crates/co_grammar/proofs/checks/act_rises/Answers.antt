-- No other act has a time.
use Rattle.std.proofs.Common.{rules}
use Rattle.co_grammar.proofs.checks.act_rises.Goals as goal

pub returns-in_default : goal.returns-in_default
returns-in_default c = search rules
