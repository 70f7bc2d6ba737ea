-- A sign is read, and the rest is a number below 0.
use Rattle.std.proofs.Common.{ℤ, rules, ap, sym, subst, arith}
use Rattle.std.proofs.lemmas.List.{take_rest}
use Rattle.std.specs.Prelude.{Result}
use Rattle.co_text.specs.Fallible.{Gives}
use Rattle.co_text.specs.declared.Cause.{Cause}
use Rattle.co_notes.specs.NoteValues.{code}
use Rattle.co_notes.proofs.PlainParts.{front_read}
use Rattle.co_notes.proofs.reading.codes.code_of.Goals as goal

pub returns-in-45 : goal.returns-in-45
returns-in-45 c =
    let begins = front_read c.args.word.now _ 45 (omega arith) (search rules) (take_rest c.args.word.now 1) in
    subst (λ (r : Result ℤ Cause). Gives (λ (z : ℤ). z) c.negative_code.result r) (sym (ap code begins)) c.negative_code.ensures
