use Rattle.std.proofs.Common.{◌≡◌, take}
use Rattle.co_print.proofs.packing.packed_list.Given as goal

-- what was packed so far
abbrev pub invariant-loop-note : goal.invariant-loop-note
invariant-loop-note l = l.packed ≡ take l.note-index l.notes
