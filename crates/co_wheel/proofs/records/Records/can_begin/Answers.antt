-- The record of what is in service tells it, where it is here.
use Rattle.std.proofs.Common.{◌≡◌, List, sym, ap, ◌∙◌}
use Rattle.std.specs.Prelude.{get_or, is_some}
use Rattle.std.specs.Option.{option_copied}
use Rattle.std.specs.declared.option.Option.{Option}
use Rattle.std.specs.declared.option.Option.TheVariants.{Some, None}
use Rattle.co_record.specs.declared.record.Record.{Record}
use Rattle.co_wheel.specs.Service.{begin_here}
use Rattle.co_wheel.proofs.Serving.{no-begin, gone-begin, open-begin}
use Rattle.co_wheel.proofs.records.Records.can_begin.Goals as goal

pub returns-in-None : goal.returns-in-None
returns-in-None c =
    let v = c.self.inside in
    no-begin v.slot v.interrupt v.records.items (sym c.current.ensures ∙ c.in-None.is) ∙ ap (λ s. is_some (begin_here s)) c.self.view_is

pub returns-in-None-record_at : goal.returns-in-None-record_at
returns-in-None-record_at c =
    let v = c.self.inside in
    let i = c.in-Some.current.i in
    let none : get_or v.records.items i None ≡ None =
    ap (λ (rs : List (Option Record)). get_or rs i None) (sym c.as_slice.ensures.value) ∙ sym c.record_at.ensures ∙ ap option_copied c.in-None-record_at.is in
    gone-begin v.slot v.interrupt v.records.items c.in-Some.current (sym c.current.ensures ∙ c.in-Some.is) none ∙ ap (λ s. is_some (begin_here s)) c.self.view_is

pub returns-in-Some-record_at : goal.returns-in-Some-record_at
returns-in-Some-record_at c =
    let v = c.self.inside in
    let i = c.in-Some.current.i in
    let rec = c.in-Some-record_at.record.now in
    let at : get_or v.records.items i None ≡ Some rec =
    ap (λ (rs : List (Option Record)). get_or rs i None) (sym c.as_slice.ensures.value) ∙ sym c.record_at.ensures ∙ ap option_copied c.in-Some-record_at.is in
    c.begin_is_open.ensures ∙ open-begin v.slot v.interrupt v.records.items c.in-Some.current (sym c.current.ensures ∙ c.in-Some.is) rec c.self.invariant at ∙ ap (λ s. is_some (begin_here s)) c.self.view_is
