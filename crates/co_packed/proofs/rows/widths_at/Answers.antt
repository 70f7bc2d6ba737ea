use Rattle.std.proofs.Common.{◌∙◌}
use Rattle.co_packed.proofs.Again.{same_value}
use Rattle.co_packed.proofs.rows.widths_at.Goals as goal

pub returns-else-bytes-ge8 : goal.returns-else-bytes-ge8
returns-else-bytes-ge8 c = c.word_at-else-bytes-ge8.ensures ∙ same_value 8 c.with_room.result c.args.bytes.now c.with_room.ensures
