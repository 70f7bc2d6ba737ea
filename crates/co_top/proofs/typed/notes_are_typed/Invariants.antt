-- The notes so far have values that their types allow.
use Rattle.std.proofs.Common.{take}
use Rattle.std.specs.List.{AllByRecursion}
use Rattle.co_report.specs.Typed.{EntryTyped}
use Rattle.co_top.proofs.typed.notes_are_typed.Given as goal

abbrev pub invariant-loop-note : goal.invariant-loop-note
invariant-loop-note l = AllByRecursion (λ note. EntryTyped note.entry) (take l.note-index l.notes)
