use Rattle.co_grammar.proofs.AheadForms.{drain-ends}
use Rattle.co_grammar.proofs.ahead.async_drain.Goals as goal

pub returns : goal.returns
returns c = drain-ends c.args.rest.now c.in_ok-timer.rest.now c.in_ok-func.rest.now c.in_ok-after.after.now c.in_ok-timer.timer c.in_ok-func.func c.in_ok-timer.ensures c.in_ok-func.ensures c.in_ok-after.ensures
