use Rattle.std.proofs.Common.{ℕ, subst, arith}
use Rattle.co_text.specs.Fallible.{Gives}
use Rattle.co_notes.specs.NoteValues.{negative}
use Rattle.co_notes.proofs.PlainParts.{code_negative, code_too_low}
use Rattle.co_notes.proofs.reading.codes.plain_negative.Goals as goal

pub returns-then-size-lt2147483649 : goal.returns-then-size-lt2147483649
returns-then-size-lt2147483649 c =
    code_negative c.args.size c.negative.result (omega arith) (omega arith) (subst (λ (k : ℕ). Gives (λ z. z) c.negative.result (negative k)) c.from.ensures c.negative.ensures)

pub returns-else-size-lt2147483649 : goal.returns-else-size-lt2147483649
returns-else-size-lt2147483649 c = code_too_low c.args.size (omega arith) (omega arith)
