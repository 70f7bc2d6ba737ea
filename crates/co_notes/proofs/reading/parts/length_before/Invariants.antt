use Rattle.std.proofs.Common.{◌≡◌, ◌+◌, drop}
use Rattle.std.specs.Prelude.{◌==◌}
use Rattle.std.specs.List.{position_or_len}
use Rattle.co_notes.proofs.reading.parts.length_before.Given as goal

abbrev pub invariant-loop-i : goal.invariant-loop-i
invariant-loop-i l = position_or_len (λ c. c == l.end) l.text ≡ l.i + position_or_len (λ c. c == l.end) (drop l.i l.text)
