-- The functions so far are copied.
use Rattle.std.proofs.Common.{◌≡◌, take}
use Rattle.co_hand.proofs.func_table.copies.Given as goal

abbrev pub invariant-loop-acts : goal.invariant-loop-acts
invariant-loop-acts l = l.copied ≡ take l.acts-index l.funcs
