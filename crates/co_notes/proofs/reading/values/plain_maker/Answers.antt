use Rattle.std.proofs.Common.{sym, subst, arith, rules}
use Rattle.co_text.specs.Fallible.{Gives}
use Rattle.co_notes.proofs.PlainParts.{maker_ok, maker_failed}
use Rattle.co_notes.proofs.reading.values.plain_maker.Goals as goal

pub returns-in_err-actor : goal.returns-in_err-actor
returns-in_err-actor c =
    let a = c.args in
    subst (Gives (λ m. m) c.from_residual.result) (sym (maker_failed a.names.now a.letter a.number a.act _ c.requires.letter (omega arith) (omega arith) c.in_err-actor.ensures)) (search rules)

pub returns : goal.returns
returns c =
    let a = c.args in
    maker_ok a.names.now a.letter a.number a.act _ c.requires.letter (omega arith) (omega arith) c.in_ok-actor.ensures
