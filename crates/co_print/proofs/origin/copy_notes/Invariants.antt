use Rattle.std.proofs.Common.{◌≡◌, length, map, take}
use Rattle.co_print.specs.Origins.{note_from}
use Rattle.co_print.proofs.origin.copy_notes.Given as goal

-- the notes of the first origins are taken
abbrev pub invariant-loop-index : goal.invariant-loop-index
invariant-loop-index l = (length l.copies ≡ length l.origins) × (take l.index l.copies ≡ map (note_from l.lists) (take l.index l.origins))
