-- Each word is read as the form says, and each number is held by its type.
use Rattle.std.proofs.Common.{rules}
use Rattle.co_grammar.proofs.forms.ticks.Goals as goal

pub returns : goal.returns
returns c =
    rw (
      c.in_ok-who.ensures,
      c.in_ok-ticks.ensures,
      c.in_ok-func.ensures,
      c.in_ok-arg.ensures,
      c.in_ok-cpu.ensures,
      c.in_ok-end.ensures,
      c.in_ok-who-2.ensures,
      c.in_ok-ticks-2.ensures,
      c.in_ok-func-2.ensures,
      c.in_ok-arg-2.ensures,
      c.in_ok-cpu-2.ensures,
    ) (search rules)
