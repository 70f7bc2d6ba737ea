use Rattle.std.proofs.Common.{length, get_or, sym, subst, ap, ◌∙◌, arith}
use Rattle.std.specs.Prelude.{slice_range}
use Rattle.co_print.specs.Order.{ArePlaceCounts, AreWritten}
use Rattle.co_print.proofs.Counted.{ArePartCounts, part-counted}
use Rattle.co_print.proofs.Starts.{length-starts}
use Rattle.co_print.proofs.Room.{has-room}
use Rattle.co_print.proofs.Shows.{shows-histories}
use Rattle.co_print.proofs.order.order_from.Goals as goal

pub bounds-from-counts : goal.bounds-from-counts
bounds-from-counts c = omega (arith, ap length c.as_slice-from.ensures, ap length c.in_ok-starts.ensures, length-starts 0 (slice_range c.as_slice.result.now c.args.first c.args.end))

pub origins_of-requires-clause-room : goal.origins_of-requires-clause-room
origins_of-requires-clause-room c =
    let are : ArePartCounts c.args.script.now c.args.lists.now c.args.first c.args.end (slice_range c.as_slice.result.now c.args.first c.args.end) =
    part-counted c.args.script.now c.args.lists.now c.as_slice.result.now c.args.first c.args.end
    (subst (ArePlaceCounts c.args.script.now c.args.lists.now) (sym c.as_slice.ensures) c.requires.counted.counts) c.requires.places c.requires.order c.requires.end in
    has-room c.args.script.now c.args.lists.now c.args.first c.args.end (slice_range c.as_slice.result.now c.args.first c.args.end) c.requires.places c.requires.formed are
    c.as_slice-from.result.now (c.as_slice-from.ensures ∙ c.in_ok-starts.ensures) (omega (arith, c.type_inv.from (length (slice_range c.as_slice.result.now c.args.first c.args.end))))

pub returns : goal.returns
returns c =
    let are : ArePartCounts c.args.script.now c.args.lists.now c.args.first c.args.end (slice_range c.as_slice.result.now c.args.first c.args.end) =
    part-counted c.args.script.now c.args.lists.now c.as_slice.result.now c.args.first c.args.end
    (subst (ArePlaceCounts c.args.script.now c.args.lists.now) (sym c.as_slice.ensures) c.requires.counted.counts) c.requires.places c.requires.order c.requires.end in
    shows-histories c.args.script.now c.args.lists.now c.args.first c.args.end (slice_range c.as_slice.result.now c.args.first c.args.end)
    (record { starts = c.in_ok-starts.starts; origins = c.in_ok-origins.origins }) c.requires.places c.requires.formed are c.in_ok-starts.ensures
    (subst (λ ss. AreWritten c.args.script.now c.args.lists.now c.args.first ss c.in_ok-origins.origins.items (length c.args.lists.now) 0) c.as_slice-from.ensures c.in_ok-origins.ensures.written)
    (c.in_ok-origins.ensures.length ∙ ap (λ ss. get_or ss (length (slice_range c.as_slice.result.now c.args.first c.args.end)) 0) c.as_slice-from.ensures)
