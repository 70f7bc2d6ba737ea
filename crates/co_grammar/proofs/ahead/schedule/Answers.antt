use Rattle.co_grammar.proofs.AheadForms.{schedule-ends}
use Rattle.co_grammar.proofs.ahead.schedule.Goals as goal

pub returns : goal.returns
returns c = schedule-ends c.args.rest.now c.in_ok-timer.rest.now _ c.in_ok-cpu.after.now c.in_ok-timer.timer c.zero.result _ c.in_ok-cpu.cpu c.in_ok-timer.ensures c.in-Some.ensures c.in_ok-cpu.ensures c.zero.ensures
