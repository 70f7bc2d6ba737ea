-- One section more is opened.
use Rattle.std.proofs.Common.{get_or, refl}
use Rattle.std.proofs.lemmas.List.{get_or_default}
use Rattle.co_object.specs.declared.Place.{Place}
use Rattle.co_object.specs.declared.Place.TheVariants.{Timer}
use Rattle.co_text.specs.Lines.{line_text}
use Rattle.co_print.specs.Reports.{heading}
use Rattle.co_print.proofs.Counts.{made_more}
use Rattle.co_report.proofs.sections.all_opened.Goals as goal

pub loop-place-preserved : goal.loop-place-preserved
loop-place-preserved c =
    let items = c.as_slice-place-items.result.now in
    let i = c.loop-place.place-index in
    let p : Place = get_or items i (Timer 0) in
    made_more (λ q. line_text (heading c.args.script.now q)) items i p _ _ _ c.loop-place-test.true (get_or_default items i (Timer 0) p c.loop-place-test.true) refl c.loop-place.invariant c.in_ok-open_next.ensures
