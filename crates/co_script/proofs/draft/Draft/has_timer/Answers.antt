use Rattle.std.proofs.Common.{◌≡◌, List, length, ap, subst}
use Rattle.std.specs.Prelude.{nat_lt}
use Rattle.co_object.specs.declared.Spec.{Spec}
use Rattle.co_script.specs.Drafts.{Draft}
use Rattle.co_script.proofs.draft.Draft.has_timer.Goals as goal

pub returns : goal.returns
returns c = subst (λ (d : Draft). nat_lt 0 (length c.as_slice.result.now) ≡ nat_lt 0 (length d.script.timers)) c.self.view_is
    (ap (λ (timers : List Spec). nat_lt 0 (length timers)) c.as_slice.ensures)
