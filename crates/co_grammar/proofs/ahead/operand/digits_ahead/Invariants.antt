use Rattle.std.proofs.Common.{◌≡◌}
use Rattle.co_grammar.proofs.Digits.{Spelled}
use Rattle.co_grammar.proofs.ahead.operand.digits_ahead.Given as goal

abbrev pub invariant-loop-c : goal.invariant-loop-c
invariant-loop-c l = record {
  same : l.count ≡ l.c-index;
  spelled : Spelled l.text l.count l.value;
}
