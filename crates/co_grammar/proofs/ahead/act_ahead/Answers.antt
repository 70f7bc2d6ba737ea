use Rattle.co_grammar.proofs.AheadWords.{says}
use Rattle.co_grammar.proofs.ahead.act_ahead.Goals as goal

pub returns : goal.returns
returns c = says c.args.text.now c.in_ok-verb.rest.now c.in_ok-after.after.now c.in_ok-verb.verb c.read_behind.new.into c.in_ok-verb.ensures c.in_ok-after.ensures
