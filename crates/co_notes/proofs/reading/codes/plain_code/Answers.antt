use Rattle.std.proofs.Common.{Ok, ap, sym, ◌∙◌, arith, w32}
use Rattle.std.proofs.lemmas.Int.{to_z_pos}
use Rattle.co_notes.proofs.PlainParts.{code_below}
use Rattle.co_notes.proofs.reading.codes.plain_code.Goals as goal

pub returns-then-number-lt2147483648 : goal.returns-then-number-lt2147483648
returns-then-number-lt2147483648 c =
    let n = c.args.number in
    code_below n (omega arith) ∙ ap Ok (sym (to_z_pos w32 n (omega arith)))
