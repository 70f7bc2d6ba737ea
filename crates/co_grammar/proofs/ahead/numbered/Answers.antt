use Rattle.co_grammar.proofs.AheadForms.{numbered-ends}
use Rattle.co_grammar.proofs.ahead.numbered.Goals as goal

pub returns : goal.returns
returns c = numbered-ends c.args.verb c.args.rest.now c.in_ok-number.rest.now c.in_ok-after.after.now c.in_ok-number.number c.numbered_act.result c.requires c.in_ok-number.ensures c.in_ok-after.ensures c.numbered_act.ensures
