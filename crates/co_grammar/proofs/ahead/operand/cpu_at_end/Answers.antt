use Rattle.std.proofs.Common.{◌++◌, ap, ◌∙◌}
use Rattle.co_grammar.proofs.AheadOperands.{cpu-ends}
use Rattle.co_grammar.proofs.ahead.operand.cpu_at_end.Goals as goal

pub returns : goal.returns
returns c = cpu-ends c.args.rest.now c.in_ok-behind.field-0.now c.in_ok-cpu.rest.now c.in_ok-after.after.now c.in_ok-cpu.cpu (c.in_ok-behind.ensures ∙ ap (λ b. b ++ c.in_ok-behind.field-0.now) c.as_slice.ensures) c.in_ok-cpu.ensures c.in_ok-after.ensures
