use Rattle.std.proofs.Common.{take, ap, ◌∙◌}
use Rattle.co_packed.proofs.Widths.{same_row, same_size}
use Rattle.co_packed.proofs.rows.last_front.Goals as goal

pub returns-clause-front : goal.returns-clause-front
returns-clause-front c = c.front_within.ensures.front ∙ ap (take 4) (same_row c.with_room.result c.args.bytes.now c.with_room.ensures)

pub returns-clause-size : goal.returns-clause-size
returns-clause-size c = c.front_within.ensures.size ∙ same_size c.with_room.result c.args.bytes.now c.with_room.ensures
