use Rattle.std.proofs.Common.{◌∙◌, sym, refl, arith}
use Rattle.std.proofs.lemmas.List.{take_rest}
use Rattle.co_notes.proofs.PlainParts.{maker_first}
use Rattle.co_notes.proofs.reading.plain.maker_part.Goals as goal

pub returns : goal.returns
returns c =
    let letter = sym c.is_actor_letter.ensures ∙ c.if-not-is_actor_letter.false in
    (letter, maker_first _ c.args.text.now _ _ letter c.in_ok-number.ensures.0 (omega arith) refl (sym (take_rest c.args.text.now 1) ∙ c.in_ok-number.ensures.1) c.in_ok-act.ensures)
