use Rattle.std.proofs.Common.{◌∙◌}
use Rattle.co_packed.proofs.Widths.{front_of_row}
use Rattle.co_packed.specs.Rows.{row_in}
use Rattle.co_packed.proofs.rows.front_within.Goals as goal

pub returns-clause-front : goal.returns-clause-front
unfolding row_in
returns-clause-front c = rw (← c.word_at-widths.ensures) (c.four_at.ensures.numbers ∙ front_of_row c.word_at-widths.result _)
