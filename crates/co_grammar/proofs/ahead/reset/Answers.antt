use Rattle.co_grammar.proofs.AheadForms.{reset-ends}
use Rattle.co_grammar.proofs.ahead.reset.Goals as goal

pub returns : goal.returns
returns c = reset-ends c.args.rest.now c.in_ok-timer.rest.now _ c.in_ok-func.rest.now c.in_ok-arg.rest.now c.in_ok-cpu.after.now c.in_ok-timer.timer c.in_ok-func.func c.in_ok-arg.arg c.zero.result _ c.in_ok-cpu.cpu
    c.in_ok-timer.ensures c.in-Some.ensures c.in_ok-func.ensures c.in_ok-arg.ensures c.in_ok-cpu.ensures c.zero.ensures
