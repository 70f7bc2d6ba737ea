use Rattle.co_print.proofs.PlacesAdded.{place_added}
use Rattle.co_report.proofs.reading.places.places.Goals as goal

pub loop-number-preserved : goal.loop-number-preserved
loop-number-preserved c =
    place_added c.args.script.now c.in_ok-place_of.field-0 c.loop-number.number _ _ c.in_ok-place_of.ensures.exists c.in_ok-place_of.ensures.number c.loop-number.invariant c.in_ok-push.ensures.ok
