use Rattle.std.proofs.Common.{◌≡◌, ◌∙◌, w32, rules}
use Rattle.co_packed.specs.Numbered.{code_at}
use Rattle.std.proofs.lemmas.Int.{to_z-of_z}
use Rattle.co_packed.proofs.Renumbered.{numbers_again}
use Rattle.co_packed.proofs.note_numbers.numbers_of.Goals as goal

pub returns : goal.returns
returns c =
    let code : code_at c.code_number.result ≡ c.entry_parts-actor.result.reply.code = c.code_number.ensures ∙ to_z-of_z w32 c.entry_parts-actor.result.reply.code (search rules) in
    numbers_again c.args.note.now c.place_parts-whose.result.0 c.entry_parts-actor.result.sort c.entry_parts-actor.result.op c.entry_parts-actor.result.reply
    c.whose_number.result c.sort_numbers-kind.result.0 c.sort_numbers-kind.result.1 c.entry_parts-actor.result.act c.place_parts-whose.result.1 c.entry_parts-actor.result.actor c.code_number.result
    c.long_of.result c.long_of-2.result c.raw.result c.raw-2.result c.long_of-3.result c.long_of-4.result c.raw-3.result c.long_of-5.result c.long_of-6.result
    c.sort_numbers-kind.ensures.bounded c.whose_number.ensures.number c.sort_numbers-kind.ensures.numbers code
    (record { same = c.long_of.ensures.same; bounded = c.long_of.ensures.bounded })
    (record { same = c.long_of-2.ensures.same; bounded = c.long_of-2.ensures.bounded })
    (record { same = c.raw.ensures.units; bounded = c.raw.ensures.bounded })
    (record { same = c.raw-2.ensures.units; bounded = c.raw-2.ensures.bounded })
    (record { same = c.long_of-3.ensures.same; bounded = c.long_of-3.ensures.bounded })
    (record { same = c.long_of-4.ensures.same; bounded = c.long_of-4.ensures.bounded })
    (record { same = c.raw-3.ensures.units; bounded = c.raw-3.ensures.bounded })
    (record { same = c.long_of-5.ensures.same; bounded = c.long_of-5.ensures.bounded })
    (record { same = c.long_of-6.ensures.same; bounded = c.long_of-6.ensures.bounded })
    c.place_parts-whose.ensures c.entry_parts-actor.ensures
