use Rattle.std.proofs.Common.{ℕ, List, ◌-◌, take, drop, length, rules, arith, decimal}
use Rattle.std.proofs.lemmas.List.{take_rest}
use Rattle.std.proofs.lemmas.Option.{IfSome_then}
use Rattle.co_notes.specs.Parts.{parts_left}
use Rattle.co_notes.proofs.PlainParts.{front_read, letter_first}
use Rattle.co_notes.proofs.reading.plain.lettered_part.Goals as goal

pub returns-in-len1-up : goal.returns-in-len1-up
returns-in-len1-up c =
    let text : List ℕ = c.args.text.now in
    let begins = front_read c.args.text.now _ c.args.letter (omega arith) (search rules) (take_rest c.args.text.now 1) in
    IfSome_then c.number_part.result c.number_part.ensures (λ x h. letter_first c.args.letter text (take (length text - 1) (drop 1 text)) (decimal x.0) (parts_left x.1.now) c.requires begins h)
