use Rattle.std.proofs.Common.{◌≡◌, take}
use Rattle.co_print.proofs.packing.packed_lists.Given as goal

-- what was packed so far
abbrev pub invariant-loop-notes : goal.invariant-loop-notes
invariant-loop-notes l = l.packed ≡ take l.notes-index l.lists
