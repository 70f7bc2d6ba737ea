use Rattle.std.proofs.Common.{arith}
use Rattle.co_text.proofs.Spelling.{ten_most}
use Rattle.co_text.proofs.values.short_spelled.Goals as goal

pub spelled_on-requires-clause-few : goal.spelled_on-requires-clause-few
spelled_on-requires-clause-few c = ten_most _ _ _ (omega (arith, c.requires)) c.fours_spelled-value.ensures.below
