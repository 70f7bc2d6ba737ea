use Rattle.std.proofs.Common.{◌≡◌, ◌-◌}
use Rattle.co_packed.specs.Stored.{after_rows}
use Rattle.co_packed.proofs.notes.after_rows.Given as goal

abbrev pub invariant-loop-at : goal.invariant-loop-at
invariant-loop-at l = after_rows (l.count - l._at) l.rest ≡ after_rows l.fn.count l.fn.bytes
