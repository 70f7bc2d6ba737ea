use Rattle.std.proofs.Common.{rules, ap, sym, ◌∙◌}
use Rattle.std.specs.Prelude.{Ok}
use Rattle.co_text.specs.Fallible.{◌>>=◌}
use Rattle.co_text.specs.Taking.{lone}
use Rattle.co_grammar.specs.LoneActs.{who_act}
use Rattle.co_grammar.specs.Operands.{who}
use Rattle.co_grammar.proofs.LoneActs.{who-then}
use Rattle.co_grammar.proofs.forms.of_who.Goals as goal

pub returns-in_err-typed_who : goal.returns-in_err-typed_who
returns-in_err-typed_who c =
    let refused = who-then c.args.verb (lone (who c.args.serviced) c.args.words.now) ∙ ap (λ r. r >>= λ w. Ok (who_act c.args.verb w)) c.in_err-typed_who.ensures in
    search rules

pub returns : goal.returns
returns c =
    who-then c.args.verb (lone (who c.args.serviced) c.args.words.now)
    ∙ (ap (λ r. r >>= λ w. Ok (who_act c.args.verb w)) c.in_ok-typed_who.ensures ∙ ap (λ a. Ok a) (sym c.who_act.ensures))
