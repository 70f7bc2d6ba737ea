-- An act that its type doesn't hold is refused by a draft too, with the same cause.
use Rattle.std.proofs.Common.{◌≡◌, Bool, List, refl, ap, sym, subst, ◌∙◌}
use Rattle.std.specs.Prelude.{Result, Ok, Err}
use Rattle.co_text.specs.Fallible.{◌>>=◌}
use Rattle.co_text.specs.Values.{Word}
use Rattle.co_text.specs.declared.Cause.{Cause}
use Rattle.co_program.specs.declared.Act.{Act}
use Rattle.co_grammar.specs.declared.Verb.{Verb}
use Rattle.co_grammar.specs.Checks.{HasSmallNumbers, typed}
use Rattle.co_grammar.specs.Forms.{act_form}
use Rattle.co_grammar.specs.Keywords.{is_func}
use Rattle.co_grammar.specs.Statements as states
use Rattle.co_grammar.proofs.Typed.{typed-err}
use Rattle.co_script.specs.Drafts.{Draft}
use Rattle.co_script.specs.Refusals.{draft_after}
use Rattle.co_script.specs.Reading.{act_line}

refused : (d : Draft) (r : Result Act Cause) (cause : Cause) → HasSmallNumbers d.script d.funcs → typed r ≡ Err cause → (r >>= λ a. draft_after d d.script (states.Does a)) ≡ Err cause
refused d (Ok a) cause h e = let no = typed-err d.funcs d.script a cause h e in rw (no.fails, no.is) refl
refused d (Err other) cause h e = let is : other ≡ cause = cc in ap (λ c. Err c) is

pub act-refused : (e d : Draft) (serviced : Bool) (v : Verb) (ws : List Word) (cause : Cause) → e ≡ d → HasSmallNumbers e.script e.funcs → serviced ≡ is_func e.stage → typed (act_form serviced v ws) ≡ Err cause → act_line d v ws ≡ Err cause
act-refused e d serviced v ws cause same h is read =
    let here : typed (act_form (is_func e.stage) v ws) ≡ Err cause = ap (λ b. typed (act_form b v ws)) (sym is) ∙ read in
    subst (λ x. act_line x v ws ≡ Err cause) same (refused e (act_form (is_func e.stage) v ws) cause h here)
