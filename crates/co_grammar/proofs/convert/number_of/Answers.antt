-- What 32 bits hold is told to be below 2^32.
use Rattle.std.proofs.Common.{◌≡◌, ◌<◌, ◌^◌, ℕ, true, ap, sym, ◌∙◌, arith}
use Rattle.std.specs.Prelude.{Ok, nat_lt}
use Rattle.std.proofs.lemmas.Bool.Decides.{nat_tests}
use Rattle.co_text.specs.Fallible.{◌>>◌, unless}
use Rattle.co_text.specs.declared.Cause.TheVariants.{Number}
use Rattle.co_grammar.specs.Checks.{number_typed}
use Rattle.co_grammar.proofs.convert.number_of.Goals as goal

held : (n : ℕ) → n < 2 ^ 32 → number_typed n ≡ Ok n
held n few = let below : nat_lt n (2 ^ 32) ≡ true = grind (arith, nat_tests) in ap (λ b. unless b Number >> Ok n) below

pub returns-in-Ok : goal.returns-in-Ok
returns-in-Ok c = held c.args.number c.in-Ok.ensures.0 ∙ ap Ok (sym c.in-Ok.ensures.1)
