use Rattle.std.specs.List.{All}
use Rattle.co_script.specs.Beside.{IsSection}
use Rattle.co_script.proofs.by_threads.read_in_turn.Given as goal

abbrev pub invariant-loop-start : goal.invariant-loop-start
invariant-loop-start l = All (IsSection l.text l.frame) l.sections
