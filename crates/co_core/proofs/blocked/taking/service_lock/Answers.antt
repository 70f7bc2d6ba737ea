-- The lock of the callout, where the script has it.
use Rattle.std.proofs.Common.{List, Option, ap, sym, ◌∙◌}
use Rattle.std.specs.Prelude.{slice_get}
use Rattle.std.specs.Option.{option_and_then, option_copied}
use Rattle.co_lock.specs.Service.{hold_of}
use Rattle.co_object.specs.declared.spec.Spec.{Spec}
use Rattle.co_core.proofs.tables.Options.{item_read}
use Rattle.co_core.proofs.blocked.taking.service_lock.Goals as goal

pub returns-in-Some : goal.returns-in-Some
returns-in-Some c =
    c.hold_of.ensures ∙ ap (λ (spec : Option Spec). option_and_then (λ spec. hold_of spec.lock) spec)
    (sym (ap option_copied c.in-Some.is) ∙ item_read c.as_slice.result.now c.args.i c.get.result c.get.ensures.lookup ∙ ap (λ (specs : List Spec). slice_get specs c.args.i) c.as_slice.ensures)

pub returns-in-None : goal.returns-in-None
returns-in-None c =
    ap (λ (spec : Option Spec). option_and_then (λ spec. hold_of spec.lock) spec)
    (sym (ap option_copied c.in-None.is) ∙ item_read c.as_slice.result.now c.args.i c.get.result c.get.ensures.lookup ∙ ap (λ (specs : List Spec). slice_get specs c.args.i) c.as_slice.ensures)
