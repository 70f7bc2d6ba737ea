use Rattle.co_grammar.proofs.AheadForms.{who-ends}
use Rattle.co_grammar.proofs.ahead.of_who.Goals as goal

pub returns : goal.returns
returns c = who-ends c.args.verb c.args.rest.now c.in_ok-timer.rest.now c.in_ok-after.after.now c.in_ok-timer.timer c.who_act.result c.requires c.in_ok-timer.ensures c.in_ok-after.ensures c.who_act.ensures
