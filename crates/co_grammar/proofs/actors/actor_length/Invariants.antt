use Rattle.std.proofs.Common.{◌≡◌, ◌+◌, drop}
use Rattle.std.specs.List.{position_or_len}
use Rattle.co_grammar.specs.Turns.{is_star}
use Rattle.co_grammar.proofs.actors.actor_length.Given as goal

abbrev pub invariant-loop-i : goal.invariant-loop-i
invariant-loop-i l = position_or_len is_star l.word ≡ l.i + position_or_len is_star (drop l.i l.word)
