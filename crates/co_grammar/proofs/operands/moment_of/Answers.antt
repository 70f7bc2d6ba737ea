-- The sign is read, and the rest is a time.
use Rattle.std.proofs.Common.{rules, ◌∷◌, ◌-◌, take, drop, length, ap, sym, subst, arith}
use Rattle.std.specs.Prelude.{Result}
use Rattle.std.proofs.lemmas.List.{take_rest}
use Rattle.co_text.specs.Fallible.{Gives}
use Rattle.co_text.specs.declared.Cause.{Cause}
use Rattle.co_program.specs.declared.When.{When}
use Rattle.co_grammar.specs.Operands.{moment}
use Rattle.co_grammar.proofs.AheadOperands.{one-read}
use Rattle.co_grammar.proofs.operands.moment_of.Goals as goal

pub returns-in-43 : goal.returns-in-43
returns-in-43 c =
    let begins = one-read c.args.word.now _ 43 (omega arith) (search rules) (take_rest c.args.word.now 1) in
    let after : Gives (λ (m : When). m) c.map.result (moment (43 ∷ take (length c.args.word.now - 1) (drop 1 c.args.word.now))) = search rules in
    subst (λ (r : Result When Cause). Gives (λ (m : When). m) c.map.result r) (sym (ap moment begins)) after

pub returns-in-61 : goal.returns-in-61
returns-in-61 c =
    let begins = one-read c.args.word.now _ 61 (omega arith) (search rules) (take_rest c.args.word.now 1) in
    let at : Gives (λ (m : When). m) c.map-in-61.result (moment (61 ∷ take (length c.args.word.now - 1) (drop 1 c.args.word.now))) = search rules in
    subst (λ (r : Result When Cause). Gives (λ (m : When). m) c.map-in-61.result r) (sym (ap moment begins)) at
