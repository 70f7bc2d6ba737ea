use Rattle.std.proofs.Common.{arith}
use Rattle.co_packed.proofs.Widths.{row_of_fours, size_of_fours}
use Rattle.co_packed.specs.Rows.{row_in, row_size}
use Rattle.co_packed.proofs.rows.row_within.Goals as goal

pub returns-clause-row : goal.returns-clause-row
unfolding row_in
returns-clause-row c =
    rw (← c.word_at-widths.ensures)
    (row_of_fours c.word_at-widths.result c.args.bytes.now c.four_at-second_at.result.0 c.four_at-third_at.result.0 c.four_at-fourth_at.result.0 c.four_at-end.result.0 c.four_at-second_at.result.1 c.four_at-third_at.result.1 c.four_at-fourth_at.result.1
    c.four_at-second_at.ensures.numbers c.four_at-third_at.ensures.numbers c.four_at-fourth_at.ensures.numbers c.four_at-end.ensures.numbers
    c.four_at-second_at.ensures.end c.four_at-third_at.ensures.end c.four_at-fourth_at.ensures.end)

pub returns-clause-size : goal.returns-clause-size
unfolding row_size
returns-clause-size c =
    rw (← c.word_at-widths.ensures)
    (omega (arith, size_of_fours c.word_at-widths.result, c.four_at-second_at.ensures.end, c.four_at-third_at.ensures.end, c.four_at-fourth_at.ensures.end, c.four_at-end.ensures.end))
