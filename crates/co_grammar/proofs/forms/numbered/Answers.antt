use Rattle.std.proofs.Common.{rules, ap, sym, ◌∙◌}
use Rattle.std.specs.Prelude.{Ok}
use Rattle.co_text.specs.Fallible.{◌>>=◌}
use Rattle.co_text.specs.Taking.{lone}
use Rattle.co_text.specs.Values.{number}
use Rattle.co_grammar.specs.LoneActs.{numbered_act}
use Rattle.co_grammar.proofs.LoneActs.{numbered-then}
use Rattle.co_grammar.proofs.forms.numbered.Goals as goal

pub returns-in_err-typed_number : goal.returns-in_err-typed_number
returns-in_err-typed_number c =
    let refused = numbered-then c.args.verb (lone number c.args.words.now) ∙ ap (λ r. r >>= λ n. Ok (numbered_act c.args.verb n)) c.in_err-typed_number.ensures in
    search rules

pub returns : goal.returns
returns c =
    numbered-then c.args.verb (lone number c.args.words.now)
    ∙ (ap (λ r. r >>= λ n. Ok (numbered_act c.args.verb n)) c.in_ok-typed_number.ensures ∙ ap (λ a. Ok a) (sym c.numbered_act.ensures))
