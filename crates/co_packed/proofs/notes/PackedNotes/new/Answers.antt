use Rattle.std.proofs.Common.{refl}
use Rattle.co_packed.proofs.Storing.{stored_none}
use Rattle.co_packed.specs.Stored.{rows_in}
use Rattle.co_packed.proofs.notes.PackedNotes.new.Goals as goal

pub invariant_of-result : goal.invariant_of-result
invariant_of-result c = rw (c.new.ensures, c.new-2.ensures) stored_none

pub returns : goal.returns
unfolding rows_in
returns c = refl
