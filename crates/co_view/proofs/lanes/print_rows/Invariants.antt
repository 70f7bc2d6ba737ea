use Rattle.std.proofs.Common.{◌≡◌, ◌++◌, flat_map, take}
use Rattle.co_view.specs.Rolls.{roll_text}
use Rattle.co_view.specs.Lanes.{row_at}
use Rattle.co_view.proofs.lanes.print_rows.Given as goal

abbrev pub invariant-loop-index : goal.invariant-loop-index
invariant-loop-index l = roll_text l.roll ≡ roll_text l.fn.roll ++ flat_map (row_at l.focus l.lines) (take l.index-index l.order)
