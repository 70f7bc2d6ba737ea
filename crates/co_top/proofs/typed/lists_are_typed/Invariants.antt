-- So do those of the actors so far.
use Rattle.std.proofs.Common.{take}
use Rattle.co_report.specs.Typed.{ListsTyped}
use Rattle.co_top.proofs.typed.lists_are_typed.Given as goal

abbrev pub invariant-loop-notes : goal.invariant-loop-notes
invariant-loop-notes l = ListsTyped (take l.notes-index l.lists)
