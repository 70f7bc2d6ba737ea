-- A timer has been declared, and the last section is closed.
use Rattle.std.proofs.Common.{◌≡◌, true, Ok, nat_lt, length, ap, sym, ◌∙◌}
use Rattle.co_text.specs.Fallible.{◌>>◌, unless}
use Rattle.co_text.specs.declared.Cause.TheVariants as cause
use Rattle.co_script.specs.Drafts.{Draft, finished, padded_script}
use Rattle.co_script.proofs.draft.Draft.end.Goals as goal

pub returns : goal.returns
returns c =
    let declared : nat_lt 0 (length c.args.self.now.script.timers) ≡ true = cc in
    ap (λ has. unless has cause.Timer >> Ok (finished c.args.self.now)) declared
    ∙ ap (λ (draft : Draft). Ok (padded_script draft.funcs draft.script)) (sym c.in_ok-close.ensures)
