use Rattle.std.proofs.Common.{◌∙◌}
use Rattle.co_packed.proofs.Widths.{same_row, same_size}
use Rattle.co_packed.proofs.rows.last_row.Goals as goal

pub returns-clause-row : goal.returns-clause-row
returns-clause-row c = c.row_within.ensures.row ∙ same_row c.with_room.result c.args.bytes.now c.with_room.ensures

pub returns-clause-size : goal.returns-clause-size
returns-clause-size c = c.row_within.ensures.size ∙ same_size c.with_room.result c.args.bytes.now c.with_room.ensures
