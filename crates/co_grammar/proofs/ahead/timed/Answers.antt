use Rattle.co_grammar.proofs.AheadForms.{timed-ends}
use Rattle.co_grammar.proofs.ahead.timed.Goals as goal

pub returns : goal.returns
returns c = timed-ends c.args.verb c.args.rest.now c.in_ok-units.rest.now c.in_ok-after.after.now c.in_ok-units.units c.in_ok-time.time c.timed_act.result c.requires c.in_ok-units.ensures c.in_ok-after.ensures c.in_ok-time.ensures.found.0 c.timed_act.ensures
